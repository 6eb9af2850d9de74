use Rattle.std.proofs.Common.{arith}
use Rattle.std.proofs.lemmas.Grind.{common_steps}
use Rattle.functions.proofs.Adding.{settled_grows}
use Rattle.functions.proofs.add.add.Goals as goal

pub returns-clause-grows : goal.returns-clause-grows
returns-clause-grows c = settled_grows _ _ _ _ _ _ c.args.addresses.now.few c.insert.ensures.outcome c.insert.ensures.full

pub returns-clause-added : goal.returns-clause-added
returns-clause-added c = grind (arith, common_steps)
