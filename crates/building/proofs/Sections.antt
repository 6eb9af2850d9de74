-- Sections by number, and the ends that they add. Assumes nothing.
use Rattle.std.proofs.Common.{◌≡◌, ℕ, suc, ◌+◌, true, false, cond, ltb, List, [], ◌∷◌, ◌++◌, length, take, drop, Some, None, sym, ap, ◌∙◌, append_assoc, append-nil, arith, take-append-drop}
use Rattle.std.specs.List.{slice_get}
use Rattle.std.proofs.lemmas.List.{length-take-le}
use Rattle.base.specs.declared.image.Section.{Section}
use Rattle.base.specs.declared.context.KnownStart.{KnownStart}
use Rattle.base.specs.declared.refusal.Refusal.{Refusal}
use Rattle.base.specs.Rows.{unnamed_start}
use Rattle.building.specs.Starts.{section_ends, offset_count}
use Rattle.building.proofs.Items.{item_take, item_within}
use Rattle.building.proofs.Symbols.{full_with-more}

ends_append : (n : ℕ) (xs : List Section) (x : Section) → section_ends n (xs ++ x ∷ []) ≡ section_ends n xs ++ cond x.executable (unnamed_start (record { section = n + length xs; offset = x.size }) ∷ []) []
ends_append n [] x =
    append-nil _ ∙ ap (λ m. cond x.executable (unnamed_start (record { section = m; offset = x.size }) ∷ []) []) (omega arith)
ends_append n (y ∷ ys) x =
    ap (λ l. cond y.executable (unnamed_start (record { section = n; offset = y.size }) ∷ []) [] ++ l) (ends_append (n + 1) ys x ∙ ap (λ m. section_ends (n + 1) ys ++ cond x.executable (unnamed_start (record { section = m; offset = x.size }) ∷ []) []) (omega arith)) ∙ sym (append_assoc (cond y.executable (unnamed_start (record { section = n; offset = y.size }) ∷ []) []) (section_ends (n + 1) ys) (cond x.executable (unnamed_start (record { section = n + suc (length ys); offset = x.size }) ∷ []) []))

-- one executable section more, the k-th from 0
pub ends_more : (sections : List Section) (k : ℕ) (s : Section) → slice_get sections k ≡ Some s → length (take k sections) ≡ k → section_ends 1 (take (k + 1) sections) ≡ section_ends 1 (take k sections) ++ cond s.executable (unnamed_start (record { section = k + 1; offset = s.size }) ∷ []) []
ends_more sections k s i l =
    ap (section_ends 1) (item_take sections k s i) ∙ ends_append 1 (take k sections) s ∙ ap (λ m. section_ends 1 (take k sections) ++ cond s.executable (unnamed_start (record { section = m; offset = s.size }) ∷ []) []) (omega arith)

ends_both : (n : ℕ) (xs ys : List Section) → section_ends n (xs ++ ys) ≡ section_ends n xs ++ section_ends (n + length xs) ys
ends_both n [] ys = ap (λ m. section_ends m ys) (omega arith)
ends_both n (x ∷ xs) ys =
    ap (λ l. cond x.executable (unnamed_start (record { section = n; offset = x.size }) ∷ []) [] ++ l) (ends_both (n + 1) xs ys ∙ ap (λ m. section_ends (n + 1) xs ++ section_ends m ys) (omega arith)) ∙ sym (append_assoc (cond x.executable (unnamed_start (record { section = n; offset = x.size }) ∷ []) []) (section_ends (n + 1) xs) (section_ends (n + suc (length xs)) ys))

module _ (cs : List KnownStart) (sections : List Section) (k : ℕ) (s : Section) (i : slice_get sections k ≡ Some s) where
  long : length (take k sections) ≡ k
  long = length-take-le k sections (let w = item_within sections k s i in omega arith)

  pub ends_kept : s.executable ≡ true → (cs ++ section_ends 1 (take k sections)) ++ unnamed_start (record { section = k + 1; offset = s.size }) ∷ [] ≡ cs ++ section_ends 1 (take (k + 1) sections)
  ends_kept e =
      append_assoc cs (section_ends 1 (take k sections)) _ ∙ ap (λ l. cs ++ l) (sym (ends_more sections k s i long ∙ ap (λ b. section_ends 1 (take k sections) ++ cond b (unnamed_start (record { section = k + 1; offset = s.size }) ∷ []) []) e))

  pub ends_skipped : s.executable ≡ false → cs ++ section_ends 1 (take k sections) ≡ cs ++ section_ends 1 (take (k + 1) sections)
  ends_skipped e =
      ap (λ l. cs ++ l) (sym (ends_more sections k s i long ∙ ap (λ b. section_ends 1 (take k sections) ++ cond b (unnamed_start (record { section = k + 1; offset = s.size }) ∷ []) []) e ∙ append-nil _))

  pub ends_full : s.executable ≡ true → (n : ℕ) (e x : Refusal) → Some e ≡ cond (ltb n (offset_count ((cs ++ section_ends 1 (take k sections)) ++ unnamed_start (record { section = k + 1; offset = s.size }) ∷ []))) (Some x) None → Some e ≡ cond (ltb n (offset_count (cs ++ section_ends 1 sections))) (Some x) None
  ends_full t n e x h =
      let rest = section_ends (1 + length (take (k + 1) sections)) (drop (k + 1) sections) in
      let whole : (cs ++ section_ends 1 (take (k + 1) sections)) ++ rest ≡ cs ++ section_ends 1 sections =
      append_assoc cs (section_ends 1 (take (k + 1) sections)) rest ∙ ap (λ l. cs ++ l) (sym (ends_both 1 (take (k + 1) sections) (drop (k + 1) sections)) ∙ ap (section_ends 1) (take-append-drop (k + 1) sections)) in
      full_with-more ((cs ++ section_ends 1 (take k sections)) ++ unnamed_start (record { section = k + 1; offset = s.size }) ∷ []) rest n e x h ∙
      ap (λ ss. cond (ltb n (offset_count ss)) (Some x) None) (ap (λ l. l ++ rest) (ends_kept t) ∙ whole)
