use Rattle.std.proofs.Common.{◌≡◌, drop}
use Rattle.modules.specs.BadRows.{bad_modules}
use Rattle.modules.proofs.tables.ModuleRows.check_modules.Given as goal

-- what is left decides
abbrev pub invariant-loop-i : goal.invariant-loop-i
invariant-loop-i l = bad_modules l.self 0 l.self.modules.now ≡ bad_modules l.self l.i (drop l.i l.self.modules.now)
