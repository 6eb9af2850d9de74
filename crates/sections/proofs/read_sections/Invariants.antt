use Rattle.std.proofs.Common.{◌≡◌, ◌-◌, ◌≤◌, length, take, drop}
use Rattle.building.specs.Outcome.{first_refusal, section_refusal}
use Rattle.sections.specs.Used.{used}
use Rattle.sections.proofs.read_sections.Given as goal

abbrev pub invariant-loop-section : goal.invariant-loop-section
invariant-loop-section g l =
    let sections = (g.S.ImageSource.image l.source).sections in
    (used l.sections ≡ take l.sections.count sections)
    × (l.sections.count ≤ length sections)
    × (first_refusal section_refusal l.sections.count (drop l.sections.count sections) ≡ first_refusal section_refusal 0 sections)

abbrev pub decreases-loop-section : goal.decreases-loop-section
decreases-loop-section g l = length (g.S.ImageSource.image l.source).sections - l.sections.count
