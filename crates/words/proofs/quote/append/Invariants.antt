use Rattle.std.proofs.Common.{◌≡◌, ◌+◌, ◌≤◌, ◌++◌, drop, take, length, vec_items, vec_len, vec_capacity}
use Rattle.std.specs.Option.{option_map}
use Rattle.words.specs.Quotes.{from_place, unquoted, complete_from, complete, Sound}
use Rattle.words.proofs.quote.append.Given as goal

-- what is appended so far, before what the rest stands for
abbrev pub invariant-loop-b : goal.invariant-loop-b
invariant-loop-b l = record {
  sound : Sound l.place;
  whole : option_map (λ bs. vec_items l.out ++ bs) (from_place l.place (drop l.b-index l.raw)) ≡ option_map (λ bs. vec_items l.initial.out ++ bs) (unquoted l.raw);
  counted : vec_len l.out + complete_from l.place (drop l.b-index l.raw) ≡ vec_len l.initial.out + complete l.raw;
  room : vec_capacity l.initial.out ≤ vec_capacity l.out;
  kept : take (length (vec_items l.initial.out)) (vec_items l.out) ≡ vec_items l.initial.out;
}
