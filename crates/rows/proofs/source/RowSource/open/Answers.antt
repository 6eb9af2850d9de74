use Rattle.std.proofs.Common.{rules, sym}
use Rattle.rows.specs.Tables.{meaning_of}
use Rattle.rows.proofs.BadRows.{good_rows}
use Rattle.rows.proofs.source.RowSource.open.Goals as goal

pub invariant_of-place : goal.invariant_of-place
invariant_of-place c = record { lawful = good_rows (meaning_of c.args.rows) (sym c.in_ok-check.ensures) }

pub returns-clause-granted : goal.returns-clause-granted
returns-clause-granted c = search rules
