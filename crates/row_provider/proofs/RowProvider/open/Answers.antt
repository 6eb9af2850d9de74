use Rattle.std.proofs.Common.{rules}
use Rattle.row_provider.proofs.RowProvider.open.Goals as goal

pub returns-in_err-check-clause-answer : goal.returns-in_err-check-clause-answer
returns-in_err-check-clause-answer c = search rules

pub invariant_of-place : goal.invariant_of-place
invariant_of-place c = search rules
