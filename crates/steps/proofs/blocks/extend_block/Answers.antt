use Rattle.std.proofs.Common.{rules}
use Rattle.steps.proofs.blocks.extend_block.Goals as goal

pub returns-clause-refused : goal.returns-clause-refused
returns-clause-refused c = search rules
