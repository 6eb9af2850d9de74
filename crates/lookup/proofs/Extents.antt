-- Two addresses of one contribution have the same extent exactly when they belong together. Assumes nothing.
use Rattle.std.proofs.Common.{◌≡◌, ℕ, ◌+◌, ◌-◌, ◌<◌, ◌≤◌, true, false, cond, ◌&&◌, eqb, ltb, leb, ◌⊎◌, ◌↔◌, List, [], ◌∷◌, get_or, Some, None, Ok, Err, Option, Result, sym, refl, ap, ◌∙◌, subst, inl, inr, ⊎_elim, arith}
use Rattle.std.proofs.lemmas.Bool.Decides.{nat_tests}
use Rattle.std.proofs.lemmas.Bool.{both_ways, cases_Bool, cases_lt, cases_order, cond-true, cond-false, and_parts, and_from, or_from, or_parts, leb-true, leb-false, ltb-true, eqb-true, le-leb, lt-ltb, eq-eqb}
use Rattle.std.proofs.ByRecursion.{all-has, All-weaker, all_has_itself}
use Rattle.std.specs.List.{ContainsAt as Has}
use Rattle.order.specs.Rank.{before, Rises, first, last, inside}
use Rattle.order.proofs.Ranks.{before_irrefl}
use Rattle.order.proofs.Rows.{pairwise-at, pairwise-none}
use Rattle.base.specs.Rows.{start_rank}
use Rattle.base.specs.declared.image.SectionOffset.{SectionOffset}
use Rattle.base.specs.declared.image.Section.{Section}
use Rattle.base.specs.declared.context.KnownStart.{KnownStart}
use Rattle.base.specs.declared.context.Contribution.{Contribution}
use Rattle.base.specs.declared.refusal.Refusal.{Refusal}
use Rattle.building.specs.Outcome.{Built, top}
use Rattle.provider.specs.Modules.{Modules, Content}
use Rattle.procedures.specs.Rows.{procedure_rank}
use Rattle.procedures.specs.declared.row.Procedure.{Procedure}
use Rattle.procedures.specs.declared.function.Location.{Location}
use Rattle.procedures.specs.declared.function.Function.{Function}
use Rattle.lookup.specs.Reading.{Shelved, reading, filled, bears, shelve}
use Rattle.procedures.specs.declared.function.Spot.{Spot}
use Rattle.lookup.specs.Places.{spot, holds, contribution_at, in_contribution, from_spot, locate}
use Rattle.lookup.specs.Finding.{covers, chosen, reaches, follows, capped, of_procedure, of_start, by_choice, function_at, answered, find_located, find_function}
use Rattle.lookup.specs.Laws.{between, separates, SameExtent, Together, Extents}
use Rattle.lookup.proofs.Choosing.{some_is, none-some, last_none, first-none, none_first, last_passes, first_passes, last_member, first_member, last_rising, first_rising}
use Rattle.lookup.proofs.Reading.{reading-rises}

-- places

spot_least : (n : ℕ) (ss : List Section) (a : ℕ) (x : Spot) → spot n ss a ≡ Some x → n ≤ x.offset.section
spot_least n [] a x h = absurd (none-some x h)
spot_least n (s ∷ ss) a x h =
    ⊎_elim
    (λ b. let e : n ≡ x.offset.section = ap (λ y. y.offset.section) (some_is (record { base = s.address; offset = record { section = n; offset = a - s.address } }) x (sym (cond-true _ _ _ b) ∙ h)) in omega arith)
    (λ b. let l = spot_least (n + 1) ss a x (sym (cond-false _ _ _ b) ∙ h) in omega arith)
    (cases_Bool (inside s.address (s.address + s.size) a))

-- a place and its section's address give the address again
pub spot_address : (n : ℕ) (ss : List Section) (a : ℕ) (x : Spot) → spot n ss a ≡ Some x → x.base + x.offset.offset ≡ a
spot_address n [] a x h = absurd (none-some x h)
spot_address n (s ∷ ss) a x h =
    ⊎_elim
    (λ b.
    let l = leb-true s.address a (and_parts (leb s.address a) (ltb a (s.address + s.size)) b).0 in
    let e : a ≡ s.address + (a - s.address) = omega arith in
    sym (e ∙ ap (λ y. y.base + y.offset.offset) (some_is (record { base = s.address; offset = record { section = n; offset = a - s.address } }) x (sym (cond-true _ _ _ b) ∙ h))))
    (λ b. spot_address (n + 1) ss a x (sym (cond-false _ _ _ b) ∙ h))
    (cases_Bool (inside s.address (s.address + s.size) a))

-- places of one section number have one base
spot_base : (n : ℕ) (ss : List Section) (a b : ℕ) (x y : Spot) → spot n ss a ≡ Some x → spot n ss b ≡ Some y → x.offset.section ≡ y.offset.section → x.base ≡ y.base
spot_base n [] a b x y h k e = absurd (none-some x h)
spot_base n (s ∷ ss) a b x y h k e =
    ⊎_elim
    (λ p.
    let i : record { base = s.address; offset = record { section = n; offset = a - s.address } } ≡ x = some_is _ x (sym (cond-true _ _ _ p) ∙ h) in
    ⊎_elim
    (λ q.
    let j : record { base = s.address; offset = record { section = n; offset = b - s.address } } ≡ y = some_is _ y (sym (cond-true _ _ _ q) ∙ k) in
    sym (ap (λ z. z.base) i) ∙ ap (λ z. z.base) j)
    (λ q.
    let m : n ≡ x.offset.section = ap (λ z. z.offset.section) i in
    let l = spot_least (n + 1) ss b y (sym (cond-false _ _ _ q) ∙ k) in
    absurd (omega arith))
    (cases_Bool (inside s.address (s.address + s.size) b)))
    (λ p.
    ⊎_elim
    (λ q.
    let j : record { base = s.address; offset = record { section = n; offset = b - s.address } } ≡ y = some_is _ y (sym (cond-true _ _ _ q) ∙ k) in
    let m : n ≡ y.offset.section = ap (λ z. z.offset.section) j in
    let l = spot_least (n + 1) ss a x (sym (cond-false _ _ _ p) ∙ h) in
    absurd (omega arith))
    (λ q. spot_base (n + 1) ss a b x y (sym (cond-false _ _ _ p) ∙ h) (sym (cond-false _ _ _ q) ∙ k) e)
    (cases_Bool (inside s.address (s.address + s.size) b)))
    (cases_Bool (inside s.address (s.address + s.size) a))

-- what is known of a location
pub record Lies (c : Built) (a : ℕ) (l : Location) : Type 0 where
  from : spot 1 c.sections a ≡ Some (record { base = l.base; offset = l.offset })
  in_section : l.contribution.section ≡ l.offset.section

pub located : (c : Built) (a : ℕ) (l : Location) → locate c a ≡ Some l → Lies c a l
located c a l h = go (spot 1 c.sections a) refl h
  where
    on : (x : Spot) (o : Option Contribution) → spot 1 c.sections a ≡ Some x → contribution_at c.contributions x.offset ≡ o → in_contribution x o ≡ Some l → Lies c a l
    on x None e f k = absurd (none-some l k)
    on x (Some d) e f k =
        let i : record { base = x.base; offset = x.offset; contribution = d } ≡ l = some_is _ l k in
        subst (Lies c a) i (record {
          from = e;
          in_section = eqb-true d.section x.offset.section (and_parts (eqb d.section x.offset.section) (inside d.start d.end x.offset.offset) (first_passes (holds x.offset) c.contributions d f)).0;
        })

    go : (o : Option Spot) → spot 1 c.sections a ≡ o → from_spot c.contributions o ≡ Some l → Lies c a l
    go None e k = absurd (none-some l k)
    go (Some x) e k = on x (contribution_at c.contributions x.offset) e refl k

-- rows of one section

nearer : (a b c d : ℕ) → a ≡ c → before (a ∷ b ∷ []) (c ∷ d ∷ []) ≡ true → b < d
nearer a b c d e h = grind (arith, nat_tests)

rising_one : {X : Type 0} (rank : X → List ℕ) (xs : List X) (x y : X) → Rises rank xs → Has xs x → Has xs y → rank x ≡ rank y → x ≡ y
rising_one rank xs x y r p q e =
    let unlike : (v w : _) → rank v ≡ rank w → before (rank v) (rank w) ≡ true → ⊥ = λ v w s b. both_ways _ (subst (λ z. before (rank v) z ≡ false) s (before_irrefl (rank v))) b in
    ⊎_elim
    (λ s. sym (p.2 x) ∙ ap (λ i. get_or xs i x) s ∙ q.2 x)
    (⊎_elim
    (λ l. absurd (unlike x y e (subst (λ v. before (rank v) (rank y) ≡ true) (p.2 x) (subst (λ w. before (rank (get_or xs p.0 x)) (rank w) ≡ true) (q.2 x) (pairwise-at (λ v w. before (rank v) (rank w)) xs r p.0 q.0 x l q.1)))))
    (λ l. absurd (unlike y x (sym e) (subst (λ v. before (rank v) (rank x) ≡ true) (q.2 x) (subst (λ w. before (rank (get_or xs q.0 x)) (rank w) ≡ true) (p.2 x) (pairwise-at (λ v w. before (rank v) (rank w)) xs r q.0 p.0 x l p.1))))))
    (cases_order p.0 q.0)

-- tests taken apart and put together

reached : (o : SectionOffset) (s : KnownStart) → reaches o s ≡ true → (s.offset.section ≡ o.section) × (s.offset.offset ≤ o.offset)
reached o s h =
    let p = and_parts (eqb s.offset.section o.section) (leb s.offset.offset o.offset) h in
    (eqb-true s.offset.section o.section p.0, leb-true s.offset.offset o.offset p.1)

reaching : (o : SectionOffset) (s : KnownStart) → s.offset.section ≡ o.section → s.offset.offset ≤ o.offset → reaches o s ≡ true
reaching o s e l = and_from _ _ (eq-eqb s.offset.section o.section e) (le-leb s.offset.offset o.offset l)

followed : (o : SectionOffset) (s : KnownStart) → follows o s ≡ true → (s.offset.section ≡ o.section) × (o.offset < s.offset.offset)
followed o s h =
    let p = and_parts (eqb s.offset.section o.section) (ltb o.offset s.offset.offset) h in
    (eqb-true s.offset.section o.section p.0, ltb-true o.offset s.offset.offset p.1)

following : (o : SectionOffset) (s : KnownStart) → s.offset.section ≡ o.section → o.offset < s.offset.offset → follows o s ≡ true
following o s e l = and_from _ _ (eq-eqb s.offset.section o.section e) (lt-ltb o.offset s.offset.offset l)

lies_between : (o p : SectionOffset) (s : KnownStart) → s.offset.section ≡ p.section → o.offset < s.offset.offset → s.offset.offset ≤ p.offset → between o p s ≡ true
lies_between o p s e l m =
    and_from _ _ (eq-eqb s.offset.section p.section e) (and_from _ _ (lt-ltb o.offset s.offset.offset l) (le-leb s.offset.offset p.offset m))

-- no start that p reaches lies above o
not_between : (o p : SectionOffset) (s : KnownStart) → (reaches p s ≡ true → s.offset.offset ≤ o.offset) → between o p s ≡ false
not_between o p s h =
    ⊎_elim
    (λ t.
    let u = and_parts (eqb s.offset.section p.section) (ltb o.offset s.offset.offset && leb s.offset.offset p.offset) t in
    let v = and_parts (ltb o.offset s.offset.offset) (leb s.offset.offset p.offset) u.1 in
    let l = ltb-true o.offset s.offset.offset v.0 in
    let m = h (and_from _ _ u.0 v.1) in
    absurd (omega arith))
    (λ f. f)
    (cases_Bool (between o p s))

covering : (o : SectionOffset) (p : Procedure) → p.offset.section ≡ o.section → p.offset.offset ≤ o.offset → o.offset < p.offset.offset + p.length → covers o p ≡ true
covering o p e l m =
    and_from _ _ (eq-eqb p.offset.section o.section e) (and_from _ _ (le-leb p.offset.offset o.offset l) (lt-ltb o.offset (p.offset.offset + p.length) m))

covered : (o : SectionOffset) (p : Procedure) → covers o p ≡ true → p.offset.section ≡ o.section
covered o p h =
    eqb-true p.offset.section o.section (and_parts (eqb p.offset.section o.section) (inside p.offset.offset (p.offset.offset + p.length) o.offset) h).0

capped_same : (m n : ℕ) → capped m ≡ capped n → (m ≡ n) ⊎ ((top < m) × (top < n))
capped_same m n h =
    ⊎_elim
    (λ p. ⊎_elim
    (λ q. inl (some_is m n (sym (cond-true (leb m top) (Some m) None p) ∙ h ∙ cond-true (leb n top) (Some n) None q)))
    (λ q. absurd (none-some m (sym (sym (cond-true (leb m top) (Some m) None p) ∙ h ∙ cond-false (leb n top) (Some n) None q))))
    (cases_Bool (leb n top)))
    (λ p. ⊎_elim
    (λ q. absurd (none-some n (sym (cond-false (leb m top) (Some m) None p) ∙ h ∙ cond-true (leb n top) (Some n) None q)))
    (λ q. inr (leb-false m top p, leb-false n top q))
    (cases_Bool (leb n top)))
    (cases_Bool (leb m top))

-- how an answer came about
module _ (starts : List KnownStart) (ps : List Procedure) where
  record ByProcedure (l : Location) (f : Function) (p : Procedure) : Type 0 where
    choice : chosen l.offset ps ≡ Some p
    starting : f.start_rva ≡ l.base + p.offset.offset
    ending : f.end_rva ≡ capped (l.base + (p.offset.offset + p.length))

  record ByStart (l : Location) (f : Function) (s n : KnownStart) : Type 0 where
    choice : chosen l.offset ps ≡ None
    low : last (reaches l.offset) starts ≡ Some s
    high : first (follows l.offset) starts ≡ Some n
    starting : f.start_rva ≡ l.base + s.offset.offset
    ending : f.end_rva ≡ capped (l.base + n.offset.offset)

  abbrev Origin : Location → Function → Type 0
  Origin l f = ((p : Procedure) × ByProcedure l f p) ⊎ ((s : KnownStart) × (n : KnownStart) × ByStart l f s n)

  from_start : (l : Location) (f : Function) (o q : Option KnownStart) → chosen l.offset ps ≡ None → last (reaches l.offset) starts ≡ o → first (follows l.offset) starts ≡ q → of_start l o q ≡ Some f → Origin l f
  from_start l f None q e d i h = absurd (none-some f h)
  from_start l f (Some s) None e d i h = absurd (none-some f h)
  from_start l f (Some s) (Some n) e d i h =
      ⊎_elim
      (λ b. absurd (none-some f (sym (cond-true (ltb s.offset.offset l.contribution.start) None _ b) ∙ h)))
      (λ b.
      let j = some_is _ f (sym (cond-false (ltb s.offset.offset l.contribution.start) None _ b) ∙ h) in
      inr (s, n, record { choice = e; low = d; high = i; starting = sym (ap (λ g. g.start_rva) j); ending = sym (ap (λ g. g.end_rva) j) }))
      (cases_Bool (ltb s.offset.offset l.contribution.start))

  origin : (text : List ℕ) (l : Location) (f : Function) → function_at text starts l ps ≡ Some f → Origin l f
  origin text l f h = go (chosen l.offset ps) refl h
    where
      go : (o : Option Procedure) → chosen l.offset ps ≡ o → by_choice text starts l o ≡ Some f → Origin l f
      go None e k = from_start l f (last (reaches l.offset) starts) (first (follows l.offset) starts) e refl refl k
      go (Some p) e k =
          let j = some_is (of_procedure text starts l p) f k in
          inl (p, record { choice = e; starting = sym (ap (λ g. g.start_rva) j); ending = sym (ap (λ g. g.end_rva) j) })

  module _ (rs : Rises start_rank starts) (rp : Rises procedure_rank ps) where
    -- the neighbours of a place: no start at or below it is higher, and none above it is lower
    low_most : (l : Location) (f : Function) (s n : KnownStart) → ByStart l f s n → (y : KnownStart) → Has starts y → reaches l.offset y ≡ true → y.offset.offset ≤ s.offset.offset
    low_most l f s n h y m r =
        let a = reached l.offset s (last_passes (reaches l.offset) starts s h.low) in
        let b = reached l.offset y r in
        ⊎_elim
        (λ e. let d : y.offset.offset ≡ s.offset.offset = ap (λ z. z.offset.offset) e in omega arith)
        (λ u. let d = nearer y.offset.section y.offset.offset s.offset.section s.offset.offset (b.0 ∙ sym a.0) u in omega arith)
        (all-has (λ z. reaches l.offset z ≡ true → (z ≡ s) ⊎ (before (start_rank z) (start_rank s) ≡ true)) starts y (last_rising (reaches l.offset) start_rank starts s rs h.low) m r)

    high_least : (l : Location) (f : Function) (s n : KnownStart) → ByStart l f s n → (y : KnownStart) → Has starts y → follows l.offset y ≡ true → n.offset.offset ≤ y.offset.offset
    high_least l f s n h y m r =
        let a = followed l.offset n (first_passes (follows l.offset) starts n h.high) in
        let b = followed l.offset y r in
        ⊎_elim
        (λ e. let d : y.offset.offset ≡ n.offset.offset = ap (λ z. z.offset.offset) e in omega arith)
        (λ u. let d = nearer n.offset.section n.offset.offset y.offset.section y.offset.offset (a.0 ∙ sym b.0) u in omega arith)
        (all-has (λ z. follows l.offset z ≡ true → (z ≡ n) ⊎ (before (start_rank n) (start_rank z) ≡ true)) starts y (first_rising (follows l.offset) start_rank starts n rs h.high) m r)

    module _ (l k : Location) (f g : Function) (base : l.base ≡ k.base) (section : l.offset.section ≡ k.offset.section) where
      -- one procedure
      one_procedure : (p q : Procedure) → ByProcedure l f p → ByProcedure k g q → SameExtent f g → p ≡ q
      one_procedure p q h i e =
          let u = covered l.offset p (last_passes (covers l.offset) ps p h.choice) in
          let v = covered k.offset q (last_passes (covers k.offset) ps q i.choice) in
          let s : p.offset.section ≡ q.offset.section = u ∙ section ∙ sym v in
          let x = h.starting in
          let y = i.starting in
          let z = e.0 in
          let o : p.offset.offset ≡ q.offset.offset = omega arith in
          rising_one procedure_rank ps p q rp (last_member (covers l.offset) ps p h.choice) (last_member (covers k.offset) ps q i.choice) (ap (λ j. j ∷ p.offset.offset ∷ []) s ∙ ap (λ j. q.offset.section ∷ j ∷ []) o)

      same_procedure : (p : Procedure) → ByProcedure l f p → ByProcedure k g p → SameExtent f g
      same_procedure p h i = (
        h.starting ∙ ap (λ j. j + p.offset.offset) base ∙ sym i.starting,
        h.ending ∙ ap (λ j. capped (j + (p.offset.offset + p.length))) base ∙ sym i.ending,
      )

      -- an address with a procedure and one with none
      unlike : (p : Procedure) (s n : KnownStart) → k.base + k.offset.offset ≤ top → ByProcedure l f p → ByStart k g s n → SameExtent f g → ⊥
      unlike p s n below h i e =
          let x = h.starting in
          let y = i.starting in
          let z = e.0 in
          let a = (reached k.offset s (last_passes (reaches k.offset) starts s i.low)).1 in
          let b = (followed k.offset n (first_passes (follows k.offset) starts n i.high)).1 in
          let u = covered l.offset p (last_passes (covers l.offset) ps p h.choice) in
          let d : k.offset.offset < p.offset.offset + p.length =
          ⊎_elim (λ m. omega arith) (λ m. let w = m.0 in omega arith)
          (capped_same (l.base + (p.offset.offset + p.length)) (k.base + n.offset.offset) (sym h.ending ∙ e.1 ∙ i.ending)) in
          both_ways (covers k.offset p)
          (all-has (λ q. covers k.offset q ≡ false) ps p (last_none (covers k.offset) ps i.choice) (last_member (covers l.offset) ps p h.choice))
          (covering k.offset p (u ∙ section) (omega arith) d)

      -- no procedure for either
      no_separation : (s n t m : KnownStart) → ByStart l f s n → ByStart k g t m → SameExtent f g → first (separates l.offset k.offset) starts ≡ None
      no_separation s n t m h i e =
          let x = h.starting in
          let y = i.starting in
          let z = e.0 in
          let o : s.offset.offset ≡ t.offset.offset = omega arith in
          let a = (reached l.offset s (last_passes (reaches l.offset) starts s h.low)).1 in
          let b = (reached k.offset t (last_passes (reaches k.offset) starts t i.low)).1 in
          none_first (separates l.offset k.offset) starts
          (All-weaker (Has starts) (λ v. separates l.offset k.offset v ≡ false)
          (λ v w.
          or_from (between l.offset k.offset v) (between k.offset l.offset v)
          (not_between l.offset k.offset v (λ r. let j = low_most k g t m i v w r in omega arith))
          (not_between k.offset l.offset v (λ r. let j = low_most l f s n h v w r in omega arith)))
          starts (all_has_itself starts))

      low_upto : (s n t m : KnownStart) → ByStart l f s n → ByStart k g t m → between k.offset l.offset s ≡ false → s.offset.offset ≤ t.offset.offset
      low_upto s n t m h i none =
          let a = reached l.offset s (last_passes (reaches l.offset) starts s h.low) in
          ⊎_elim
          (λ u. absurd (both_ways (between k.offset l.offset s) none (lies_between k.offset l.offset s a.0 u a.1)))
          (λ u. low_most k g t m i s (last_member (reaches l.offset) starts s h.low) (reaching k.offset s (a.0 ∙ section) u))
          (cases_lt k.offset.offset s.offset.offset)

      high_upto : (s n t m : KnownStart) → ByStart l f s n → ByStart k g t m → between l.offset k.offset n ≡ false → m.offset.offset ≤ n.offset.offset
      high_upto s n t m h i none =
          let a = followed l.offset n (first_passes (follows l.offset) starts n h.high) in
          ⊎_elim
          (λ u. high_least k g t m i n (first_member (follows l.offset) starts n h.high) (following k.offset n (a.0 ∙ section) u))
          (λ u. absurd (both_ways (between l.offset k.offset n) none (lies_between l.offset k.offset n (a.0 ∙ section) a.1 u)))
          (cases_lt k.offset.offset n.offset.offset)

    module _ (l k : Location) (f g : Function) (base : l.base ≡ k.base) (section : l.offset.section ≡ k.offset.section) where
      same-starts : (s n t m : KnownStart) → ByStart l f s n → ByStart k g t m → first (separates l.offset k.offset) starts ≡ None → SameExtent f g
      same-starts s n t m h i none =
          let all = first-none (separates l.offset k.offset) starts none in
          let clear : (v : KnownStart) → Has starts v → (between l.offset k.offset v ≡ false) × (between k.offset l.offset v ≡ false) =
          λ v w. or_parts (between l.offset k.offset v) (between k.offset l.offset v) (all-has (λ x. separates l.offset k.offset x ≡ false) starts v all w) in
          let a = low_upto l k f g base section s n t m h i (clear s (last_member (reaches l.offset) starts s h.low)).1 in
          let b = low_upto k l g f (sym base) (sym section) t m s n i h (clear t (last_member (reaches k.offset) starts t i.low)).0 in
          let x = high_upto l k f g base section s n t m h i (clear n (first_member (follows l.offset) starts n h.high)).0 in
          let y = high_upto k l g f (sym base) (sym section) t m s n i h (clear m (first_member (follows k.offset) starts m i.high)).1 in
          let d : s.offset.offset ≡ t.offset.offset = omega arith in
          let e : n.offset.offset ≡ m.offset.offset = omega arith in (
            h.starting ∙ ap (λ j. j + s.offset.offset) base ∙ ap (λ j. k.base + j) d ∙ sym i.starting,
            h.ending ∙ ap (λ j. capped (j + n.offset.offset)) base ∙ ap (λ j. capped (k.base + j)) e ∙ sym i.ending,
          )

      agree : l.base + l.offset.offset ≤ top → k.base + k.offset.offset ≤ top → Origin l f → Origin k g → SameExtent f g ↔ Together starts l.offset k.offset ps
      agree low high (inl (p, h)) (inl (q, i)) = (
        λ e. inl (p, h.choice, i.choice ∙ ap Some (sym (one_procedure l k f g base section p q h i e))),
        λ e. ⊎_elim
            (λ r.
            let u : q ≡ p = some_is q p (sym i.choice ∙ r.2 ∙ sym r.1 ∙ h.choice) in
            same_procedure l k f g base section p h (subst (ByProcedure k g) u i))
            (λ r. absurd (none-some p (sym r.0 ∙ h.choice)))
            e,
      )
      agree low high (inl (p, h)) (inr (t, m, i)) = (
        λ e. absurd (unlike l k f g base section p t m high h i e),
        λ e. ⊎_elim (λ r. absurd (none-some r.0 (sym i.choice ∙ r.2))) (λ r. absurd (none-some p (sym r.0 ∙ h.choice))) e,
      )
      agree low high (inr (s, n, h)) (inl (q, i)) = (
        λ e. absurd (unlike k l g f (sym base) (sym section) q s n low i h (sym e.0, sym e.1)),
        λ e. ⊎_elim (λ r. absurd (none-some r.0 (sym h.choice ∙ r.1))) (λ r. absurd (none-some q (sym r.1 ∙ i.choice))) e,
      )
      agree low high (inr (s, n, h)) (inr (t, m, i)) = (
        λ e. inr (h.choice, i.choice, no_separation l k f g base section s n t m h i e),
        λ e. ⊎_elim (λ r. absurd (none-some r.0 (sym h.choice ∙ r.1))) (λ r. same-starts s n t m h i r.2) e,
      )

-- what a shelf gives of a module rises if what it held did
filled-rises : (m : ℕ) (x : Content) (r : Result (Option (List Procedure)) Refusal) → reading m x ≡ r → Rises procedure_rank (filled m r).shelf.procedures
filled-rises m x (Ok None) e = pairwise-none (λ v w. before (procedure_rank v) (procedure_rank w))
filled-rises m x (Ok (Some ps)) e = reading-rises m x ps e
filled-rises m x (Err y) e = pairwise-none (λ v w. before (procedure_rank v) (procedure_rank w))

pub shelve-rises : (ms : Modules) (m : ℕ) (s : Shelved) → Rises procedure_rank s.procedures → Rises procedure_rank (shelve ms m s).shelf.procedures
shelve-rises ms m s h =
    elim (bears m s.holder) as (λ b. Rises procedure_rank (cond b (record { refusal = None; shelf = s }) (filled m (reading m (ms.at m)))).shelf.procedures) [
      | true ↦ h
      | false ↦ filled-rises m (ms.at m) (reading m (ms.at m)) refl
    ]

answered-some : (text : List ℕ) (c : Built) (l : Location) (f : Function) (r : Option Refusal) (s : Shelved) → answered text c l r s ≡ Ok (Some f) → function_at text c.starts l s.procedures ≡ Some f
answered-some text c l f None s h = cc
answered-some text c l f (Some e) s h = let z : ◌≡◌ {A = ℕ} 0 1 = cc in absurd (omega arith)

found_at : (text : List ℕ) (ms : Modules) (c : Built) (s : Shelved) (a : ℕ) (l : Location) (f : Function) → locate c a ≡ Some l → (find_function text ms c a s).answer ≡ Ok (Some f) → function_at text c.starts l (shelve ms l.contribution.«module» s).shelf.procedures ≡ Some f
found_at text ms c s a l f e h =
    answered-some text c l f (shelve ms l.contribution.«module» s).refusal (shelve ms l.contribution.«module» s).shelf (subst (λ o. (find_located text ms c o s).answer ≡ Ok (Some f)) e h)

pub extents : (text : List ℕ) (ms : Modules) (c : Built) (s : Shelved) → Rises start_rank c.starts → Rises procedure_rank s.procedures → Extents text ms c s
extents text ms c s rs rp a b l k f g few_a few_b here there one found also =
    let x = located c a l here in
    let y = located c b k there in
    let ps = (shelve ms l.contribution.«module» s).shelf.procedures in
    let section : l.offset.section ≡ k.offset.section = sym x.in_section ∙ ap (λ d. d.section) one ∙ y.in_section in
    let base : l.base ≡ k.base = spot_base 1 c.sections a b _ _ x.from y.from section in
    let low : l.base + l.offset.offset ≤ top = (let w = spot_address 1 c.sections a _ x.from in omega arith) in
    let high : k.base + k.offset.offset ≤ top = (let w = spot_address 1 c.sections b _ y.from in omega arith) in
    agree c.starts ps rs (shelve-rises ms l.contribution.«module» s rp) l k f g base section low high
    (origin c.starts ps text l f (found_at text ms c s a l f here found))
    (origin c.starts ps text k g (subst (λ d. function_at text c.starts k (shelve ms d.«module» s).shelf.procedures ≡ Some g) (sym one) (found_at text ms c s b k g there also)))

-- a located address is its section's address and its place
pub located_address : (c : Built) (a : ℕ) (l : Location) → locate c a ≡ Some l → l.base + l.offset.offset ≡ a
located_address c a l h = spot_address 1 c.sections a (record { base = l.base; offset = l.offset }) (located c a l h).from
