-- What a search finds, by the one place where it looks. Assumes nothing.
use Rattle.std.proofs.Common.{◌≡◌, ℕ, zero, suc, ◌+◌, ◌-◌, ◌^◌, ◌<◌, ◌≤◌, Bool, true, false, cond, not, eqb, ltb, leb, List, [], ◌∷◌, ◌++◌, reverse, length, get_or, take, drop, Some, None, Option, sym, refl, ap, ◌∙◌, subst, ⊎_elim, arith}
use Rattle.std.specs.Bool.{then_some}
use Rattle.std.specs.Option.{option_map}
use Rattle.std.specs.List.{find, position, position_or_len}
use Rattle.std.proofs.lemmas.List.Sums.{fails_before_first}
use Rattle.std.proofs.lemmas.List.Quantifiers.{position-Some}
use Rattle.std.proofs.lemmas.List.{reverse-append, get_or_default, get_or-drop, length-drop, take-append-drop}
use Rattle.std.proofs.lemmas.Bool.Decides.{nat_tests}
use Rattle.std.proofs.lemmas.Bool.{cases_lt, cases_Bool, and_left, and_parts, leb-true, cond-true, cond-false, ltb-false, not-true}
use Rattle.order.specs.Rank.{before, Pairwise, InOrder, first, last, later}
use Rattle.order.specs.Placed.{Place, Reach}
use Rattle.order.proofs.Rows.{pairwise-at}
use Rattle.base.specs.Rows.{offset_rank, start_rank, contribution_rank}
use Rattle.base.specs.declared.image.SectionOffset.{SectionOffset}
use Rattle.base.specs.declared.image.Section.{Section}
use Rattle.base.specs.declared.context.KnownStart.{KnownStart}
use Rattle.base.specs.declared.context.Contribution.{Contribution}
use Rattle.building.specs.Blocks.{apart}
use Rattle.procedures.specs.Rows.{procedure_rank}
use Rattle.procedures.specs.declared.row.Procedure.{Procedure}
use Rattle.procedures.specs.declared.function.Location.{Location}
use Rattle.procedures.specs.declared.function.Function.{Function}
use Rattle.lookup.specs.Places.{here, spot, holds, contribution_at}
use Rattle.lookup.specs.Finding.{covers, chosen, reaches, follows, of_start}
use Rattle.lookup.proofs.Choosing.{none-some, first-at, first_never, last-at, last_never, last_passes, last-append}

-- a row that passes, or none
then_true : {Y : Type 0} {b : Bool} (y : Y) → b ≡ true → then_some b y ≡ Some y
then_true y e = ap (λ c. then_some c y) e

then_false : {Y : Type 0} {b : Bool} (y : Y) → b ≡ false → then_some b y ≡ None
then_false y e = ap (λ c. then_some c y) e

-- sections, one after the other
spot_never : (n : ℕ) (ss : List Section) (a : ℕ) → ((j : ℕ) (d : Section) → j < length ss → here a (get_or ss j d) ≡ false) → spot n ss a ≡ None
spot_never n [] a h = refl
spot_never n (s ∷ ss) a h = cond-false (here a s) _ _ (h 0 s (omega arith)) ∙ spot_never (n + 1) ss a (λ j d l. h (suc j) d (omega arith))

spot-at : (n : ℕ) (ss : List Section) (a i : ℕ) (x : Section) → i < length ss → x ≡ get_or ss i x → here a x ≡ true → ((j : ℕ) (d : Section) → j < i → here a (get_or ss j d) ≡ false) → spot n ss a ≡ Some (record { base = x.address; offset = record { section = i + n; offset = a - x.address } })
spot-at n [] a i x l e b h = absurd (omega arith)
spot-at n (s ∷ ss) a zero x l e b h =
    let k : n ≡ 0 + n = omega arith in
    subst (λ v. spot n (v ∷ ss) a ≡ Some (record { base = x.address; offset = record { section = 0 + n; offset = a - x.address } })) e (cond-true (here a x) _ _ b ∙ ap (λ m. Some (record { base = x.address; offset = record { section = m; offset = a - x.address } })) k)
spot-at n (s ∷ ss) a (suc i) x l e b h =
    let k : i + (n + 1) ≡ suc i + n = omega arith in
    cond-false (here a s) _ _ (h 0 s (omega arith)) ∙ spot-at (n + 1) ss a i x (omega arith) e b (λ j d m. h (suc j) d (omega arith)) ∙ ap (λ m. Some (record { base = x.address; offset = record { section = m; offset = a - x.address } })) k

abbrev pub no_section : Section
no_section = record { address = 0; size = 0; executable = false }

pub spot_position : (n : ℕ) (ss : List Section) (a : ℕ) → spot n ss a ≡ option_map (λ i. let s = get_or ss i no_section in record { base = s.address; offset = record { section = i + n; offset = a - s.address } }) (position (here a) ss)
spot_position n ss a = go (position (here a) ss) refl
  where
    go : (o : Option ℕ) → position (here a) ss ≡ o → spot n ss a ≡ option_map (λ i. let s = get_or ss i no_section in record { base = s.address; offset = record { section = i + n; offset = a - s.address } }) o
    go None e =
        spot_never n ss a (λ j d l.
        ⊎_elim
        (λ b. absurd (none-some _ (sym e ∙ cond-true _ _ _ b)))
        (λ b. let m = ltb-false (position_or_len (here a) ss) (length ss) b in fails_before_first (here a) ss j d (omega arith))
        (cases_Bool (ltb (position_or_len (here a) ss) (length ss))))
    go (Some i) e =
        let p = position-Some (here a) ss i no_section e in
        spot-at n ss a i (get_or ss i no_section) p.0 (get_or_default ss i no_section (get_or ss i no_section) p.0) p.1 (λ j d l. (position-Some (here a) ss i d e).2 j l)

-- contributions that lie apart: where a row just above a place goes, only the one before it can contain the place
abbrev above : SectionOffset → List ℕ
above o = contribution_rank (record { section = o.section; start = o.offset + 1; end = 0; «module» = 0 })

-- what contains a place comes before that row
contained_before : (o : SectionOffset) (c : Contribution) → before (contribution_rank c) (above o) ≡ false → holds o c ≡ false
contained_before o c h = grind (arith, nat_tests)

-- what lies before something that comes before that row does not reach the place
apart-before : (o : SectionOffset) (b c : Contribution) → apart b c ≡ true → before (contribution_rank c) (above o) ≡ true → holds o b ≡ false
apart-before o b c h k = grind (arith, nat_tests)

module _ (cs : List Contribution) (o : SectionOffset) (p : ℕ) (lie : Pairwise apart cs) (h : Place contribution_rank cs (above o) p) where
  pub contribution_none : p ≡ 0 → contribution_at cs o ≡ None
  contribution_none e = first_never (holds o) cs (λ j d l. contained_before o (get_or cs j d) (h.above j d (omega arith) l))

  pub contribution_is : (x : Contribution) → 1 ≤ p → x ≡ get_or cs (p - 1) x → contribution_at cs o ≡ then_some (holds o x) x
  contribution_is x some read =
      let within : p - 1 < length cs = (let l = h.within in omega arith) in
      let earlier : (j : ℕ) (e : Contribution) → j < p - 1 → holds o (get_or cs j e) ≡ false = λ j e l. apart-before o (get_or cs j e) (get_or cs (p - 1) e) (pairwise-at apart cs lie j (p - 1) e l within) (h.below (p - 1) e (omega arith)) in
      ⊎_elim
      (λ b. first-at (holds o) cs (p - 1) x within read b earlier ∙ sym (then_true x b))
      (λ b.
      first_never (holds o) cs (λ j e l.
      ⊎_elim
      (λ lt. earlier j e lt)
      (λ ge.
      ⊎_elim
      (λ down. let at_p : p - 1 ≡ j = omega arith in subst (λ i. holds o (get_or cs i e) ≡ false) at_p (subst (λ y. holds o y ≡ false) (read ∙ get_or_default cs (p - 1) x e within) b))
      (λ up. contained_before o (get_or cs j e) (h.above j e up l))
      (cases_lt j p))
      (cases_lt j (p - 1))) ∙ sym (then_false x b))
      (cases_Bool (holds o x))

-- rows by their offsets, as a place stands to them
module _ (o : SectionOffset) (s : KnownStart) where
  past-below : before (offset_rank o) (start_rank s) ≡ true → reaches o s ≡ false
  past-below h = grind (arith, nat_tests)

  upto-above : before (offset_rank o) (start_rank s) ≡ false → follows o s ≡ false
  upto-above h = grind (arith, nat_tests)

  upto-below : before (offset_rank o) (start_rank s) ≡ false → eqb s.offset.section o.section ≡ true → reaches o s ≡ true
  upto-below h e = grind (arith, nat_tests)

  past-above : before (offset_rank o) (start_rank s) ≡ true → eqb s.offset.section o.section ≡ true → follows o s ≡ true
  past-above h e = grind (arith, nat_tests)

  -- where one is of another section, those further away are too
  under : (r : KnownStart) → before (start_rank s) (start_rank r) ≡ false → before (offset_rank o) (start_rank s) ≡ false → eqb s.offset.section o.section ≡ false → reaches o r ≡ false
  under r l h e = grind (arith, nat_tests)

  over : (r : KnownStart) → before (start_rank r) (start_rank s) ≡ false → before (offset_rank o) (start_rank s) ≡ true → eqb s.offset.section o.section ≡ false → follows o r ≡ false
  over r l h e = grind (arith, nat_tests)

-- the start before the place that rows reach to, and the one at it, are those around the place, if they are of its section
module _ (ss : List KnownStart) (o : SectionOffset) (n : ℕ) (ord : InOrder start_rank ss) (h : Reach start_rank ss (offset_rank o) n) where
  in_turn : (i j : ℕ) (d : KnownStart) → i < j → j < length ss → before (start_rank (get_or ss j d)) (start_rank (get_or ss i d)) ≡ false
  in_turn i j d l m = not-true _ (pairwise-at (λ x y. not (before (start_rank y) (start_rank x))) ss ord i j d l m)

  pub below_none : n ≡ 0 → last (reaches o) ss ≡ None
  below_none e = last_never (reaches o) ss (λ j d l. past-below o (get_or ss j d) (h.past j d (omega arith) l))

  pub below_is : (x : KnownStart) → 1 ≤ n → x ≡ get_or ss (n - 1) x → last (reaches o) ss ≡ then_some (eqb x.offset.section o.section) x
  below_is x some read =
      let within : n - 1 < length ss = (let l = h.within in omega arith) in
      let upto : before (offset_rank o) (start_rank x) ≡ false = subst (λ y. before (offset_rank o) (start_rank y) ≡ false) (sym read) (h.upto (n - 1) x (omega arith)) in
      ⊎_elim
      (λ e.
      last-at (reaches o) ss (n - 1) x within read (upto-below o x upto e) (λ j f l m. past-below o (get_or ss j f) (h.past j f (omega arith) m)) ∙ sym (then_true x e))
      (λ e.
      last_never (reaches o) ss (λ j f l.
      ⊎_elim
      (λ lt. under o x (get_or ss j f) (subst (λ y. before (start_rank y) (start_rank (get_or ss j f)) ≡ false) (sym (read ∙ get_or_default ss (n - 1) x f within)) (in_turn j (n - 1) f lt within)) upto e)
      (λ ge.
      ⊎_elim
      (λ lt. let at_n : n - 1 ≡ j = omega arith in subst (λ i. reaches o (get_or ss i f) ≡ false) at_n (subst (λ y. reaches o y ≡ false) (read ∙ get_or_default ss (n - 1) x f within) (and_left _ _ e)))
      (λ past. past-below o (get_or ss j f) (h.past j f past l))
      (cases_lt j n))
      (cases_lt j (n - 1))) ∙ sym (then_false x e))
      (cases_Bool (eqb x.offset.section o.section))

  pub above-none : length ss ≤ n → first (follows o) ss ≡ None
  above-none m = first_never (follows o) ss (λ j d l. upto-above o (get_or ss j d) (h.upto j d (omega arith)))

  pub above_is : (x : KnownStart) → n < length ss → x ≡ get_or ss n x → first (follows o) ss ≡ then_some (eqb x.offset.section o.section) x
  above_is x within read =
      let past : before (offset_rank o) (start_rank x) ≡ true = subst (λ y. before (offset_rank o) (start_rank y) ≡ true) (sym read) (h.past n x (omega arith) within) in
      ⊎_elim
      (λ e.
      first-at (follows o) ss n x within read (past-above o x past e) (λ j f l. upto-above o (get_or ss j f) (h.upto j f l)) ∙ sym (then_true x e))
      (λ e.
      first_never (follows o) ss (λ j f l.
      ⊎_elim
      (λ lt. upto-above o (get_or ss j f) (h.upto j f lt))
      (λ ge.
      ⊎_elim
      (λ lt. over o x (get_or ss j f) (subst (λ y. before (start_rank (get_or ss j f)) (start_rank y) ≡ false) (sym (read ∙ get_or_default ss n x f within)) (in_turn n j f lt l)) past e)
      (λ le. let at_n : n ≡ j = omega arith in subst (λ i. follows o (get_or ss i f) ≡ false) at_n (subst (λ y. follows o y ≡ false) (read ∙ get_or_default ss n x f within) (and_left _ _ e)))
      (cases_lt n j))
      (cases_lt j n)) ∙ sym (then_false x e))
      (cases_Bool (eqb x.offset.section o.section))

-- procedures: none that starts above a place contains it
covers-past : (o : SectionOffset) (p : Procedure) → before (offset_rank o) (procedure_rank p) ≡ true → covers o p ≡ false
covers-past o p h = grind (arith, nat_tests)

pub chosen_reach : (o : SectionOffset) (ps : List Procedure) (n : ℕ) → Reach procedure_rank ps (offset_rank o) n → chosen o (take n ps) ≡ chosen o ps
chosen_reach o ps n h =
    let none : chosen o (drop n ps) ≡ None =
    last_never (covers o) (drop n ps) (λ j d l.
    let m = length-drop n ps in
    subst (λ p. covers o p ≡ false) (sym (get_or-drop n ps j d)) (covers-past o (get_or ps (n + j) d) (h.past (n + j) d (omega arith) (omega arith)))) in
    sym (ap (λ xs. chosen o xs) (sym (take-append-drop n ps)) ∙ last-append (covers o) (take n ps) (drop n ps) ∙ ap (λ q. later q (chosen o (take n ps))) none)

-- the last that passes is the first in reverse
find-append : {X : Type 0} (t : X → Bool) (xs : List X) (x : X) → find t (xs ++ x ∷ []) ≡ later (find t xs) (cond (t x) (Some x) None)
find-append t [] x = elim (t x) as (λ b. cond b (Some x) None ≡ later None (cond b (Some x) None)) [ true ↦ refl | false ↦ refl ]
find-append t (y ∷ ys) x = elim (t y) as (λ b. cond b (Some y) (find t (ys ++ x ∷ [])) ≡ later (cond b (Some y) (find t ys)) (cond (t x) (Some x) None)) [ true ↦ refl | false ↦ find-append t ys x ]

pub find-reverse : {X : Type 0} (t : X → Bool) (xs : List X) → find t (reverse xs) ≡ last t xs
find-reverse t [] = refl
find-reverse t (x ∷ xs) = ap (find t) (reverse-append (x ∷ []) xs) ∙ find-append t (reverse xs) x ∙ ap (λ o. later o (cond (t x) (Some x) None)) (find-reverse t xs)

-- what is found starts at or below the place, so that its address fits where the place's does
module _ (l : Location) (fits : l.base + l.offset.offset < 2 ^ 32) where
  pub start_answers : (ss : List KnownStart) (s next : KnownStart) (r : Option Function) → Some s ≡ last (reaches l.offset) ss → Some next ≡ first (follows l.offset) ss → (l.base + s.offset.offset < 2 ^ 32 → r ≡ of_start l (Some s) (Some next)) → r ≡ of_start l (last (reaches l.offset) ss) (first (follows l.offset) ss)
  start_answers ss s next r below above h =
      let p = and_parts (eqb s.offset.section l.offset.section) (leb s.offset.offset l.offset.offset) (last_passes (reaches l.offset) ss s (sym below)) in
      let low = leb-true s.offset.offset l.offset.offset p.1 in
      h (omega arith) ∙ ap (λ x. of_start l x (Some next)) below ∙ ap (of_start l (last (reaches l.offset) ss)) above
