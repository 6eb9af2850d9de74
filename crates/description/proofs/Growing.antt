-- A list ends with the row that came last. Assumes nothing.
use Rattle.std.proofs.Common.{◌≡◌, ◌^◌, ◌<◌, length, List, [], ◌∷◌, ◌++◌, Some, Ok, refl, ap, ◌∙◌}
use Rattle.std.specs.Option.{option_map, ok_or}
use Rattle.description.specs.declared.mistake.Mistake.{Mistake}
use Rattle.description.specs.declared.mistake.Mistake.TheVariants.{NoModule, TooManyRows}
use Rattle.description.specs.declared.row.ModulePart.{ModulePart}
use Rattle.description.specs.Drafts.{ModuleLists, part_pushed, told_with, module_with, module_grown}
use Rattle.description.specs.Lists.{split_last, newest, pushed}
use Rattle.description.proofs.Steps.{and_then_ok, at_mapped, short-short}

split_push : {X : Type 0} (xs : List X) (x : X) → split_last (xs ++ x ∷ []) ≡ Some (xs, x)
split_push [] x = refl
split_push (y ∷ []) x = refl
split_push (y ∷ z ∷ zs) x = ap (option_map (λ q. (y ∷ q.0, q.1))) (split_push (z ∷ zs) x)

pub newest_end : {X : Type 0} (m : Mistake) (xs ys : List X) (x : X) → xs ≡ ys ++ x ∷ [] → newest m xs ≡ Ok (ys, x)
newest_end m xs ys x e = ap (newest m) e ∙ ap (λ o. ok_or o m) (split_push ys x)

-- a part more of the newest module: few modules, and the part stands in the lists
abbrev Grown : ModulePart → ModuleLists → ModuleLists → Type 0
Grown p a b = (length b.modules < 2 ^ 32) × (part_pushed p a.parts ≡ Ok b.parts)

pub module-grown : (p : ModulePart) (a b : ModuleLists) → module_grown p a ≡ Ok b → (length b.modules < 2 ^ 32) × (part_pushed p a.parts ≡ Ok b.parts)
module-grown p a b e =
    and_then_ok _ (newest NoModule a.modules) b e (λ q _ f. and_then_ok _ (told_with p a.told) b f (λ t _ g. and_then_ok _ (module_with p q.1) b g (λ m _ h. and_then_ok _ (pushed q.0 m) b h (λ ms d i. at_mapped (Grown p a) _ (part_pushed p a.parts) b i (λ ps k. (short-short TooManyRows _ ms d, k))))))
