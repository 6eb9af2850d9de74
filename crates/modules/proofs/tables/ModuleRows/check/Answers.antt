use Rattle.std.proofs.Common.{rules}
use Rattle.modules.proofs.tables.ModuleRows.check.Goals as goal

pub returns-in_err-check_parts : goal.returns-in_err-check_parts
returns-in_err-check_parts c = search rules

pub returns-in_err-check_parts-2 : goal.returns-in_err-check_parts-2
returns-in_err-check_parts-2 c = search rules

pub returns-in_err-check_parts-3 : goal.returns-in_err-check_parts-3
returns-in_err-check_parts-3 c = search rules

pub returns : goal.returns
returns c = search rules
