-- A loop over the bytes that fields of one number hold.
use Rattle.std.proofs.Common.{◌≡◌, ℕ, List, [], ◌∷◌, ◌++◌, map, None, Some, refl, sym, ap, subst, ◌∙◌, append_assoc}
use Rattle.std.specs.List.{AllByRecursion}
use Rattle.std.proofs.lemmas.List.{append-nil, map-append}
use Rattle.std.proofs.lemmas.Option.{none-some}
use Rattle.bep_wire.specs.declared.fault.WireFault.{WireFault}
use Rattle.bep_wire.specs.Content.{Item}
use Rattle.bep_wire.specs.Fields.{Fields, fields, first_then}
use Rattle.bep_messages.specs.Contents.{byte_lists, contents}
use Rattle.bep_messages.proofs.Words.{byte_lists_of-append}
use Rattle.node_state.specs.Reading.{held, HoldsNone, HoldsFirst}

pub next-held : (number : ℕ) (bytes rest : List ℕ) (i : Item) → fields bytes ≡ first_then i (fields rest) → held number bytes ≡ byte_lists (contents number (i ∷ [])) ++ held number rest
next-held number bytes rest i e = ap (λ (fs : Fields). byte_lists (contents number fs.items)) e ∙ byte_lists_of-append number (i ∷ []) (fields rest).items

pub next-fault : (bytes rest : List ℕ) (i : Item) → fields bytes ≡ first_then i (fields rest) → (fields bytes).fault ≡ (fields rest).fault
next-fault bytes rest i e = ap (λ (fs : Fields). fs.fault) e

-- how far a loop has come: what is held up to the place is good, and these are its values
pub record Goes {A B : Type 0} (P : List ℕ → Type 0) (f : List ℕ → B) (g : A → B) (number : ℕ) (source : List ℕ) (xs : List A) (after : List ℕ) : Type 0 where
  pub ended : (fields source).fault ≡ (fields after).fault
  pub good : AllByRecursion P (held number after) → AllByRecursion P (held number source)
  pub back : AllByRecursion P (held number source) → AllByRecursion P (held number after)
  pub value : map f (held number source) ≡ map g xs ++ map f (held number after)

module _ {A B : Type 0} (P : List ℕ → Type 0) (f : List ℕ → B) (g : A → B) (number : ℕ) (source : List ℕ) where
  pub goes-first : (xs : List A) → xs ≡ [] → Goes P f g number source xs source
  goes-first xs none = record {
    ended = refl;
    good = λ h. h;
    back = λ h. h;
    value = ap (λ (l : List A). map g l ++ map f (held number source)) (sym none);
  }

  module _ (xs : List A) (after : List ℕ) (so_far : Goes P f g number source xs after) where
    pub goes-on : (b rest : List ℕ) (x : A) (new : List A) → HoldsFirst number after b rest → P b → g x ≡ f b → new ≡ xs ++ x ∷ [] → Goes P f g number source new rest
    goes-on b rest x new is here same e = record {
      ended = so_far.ended ∙ is.1;
      good = λ h. so_far.good (subst (AllByRecursion P) (sym is.0) (here, h));
      back = λ h. (subst (AllByRecursion P) is.0 (so_far.back h)).1;
      value =
          so_far.value ∙ ap (λ (l : List (List ℕ)). map g xs ++ map f l) is.0
          ∙ ap (λ (y : B). map g xs ++ y ∷ map f (held number rest)) (sym same)
          ∙ sym (append_assoc (map g xs) (g x ∷ []) (map f (held number rest)))
          ∙ ap (λ (l : List B). l ++ map f (held number rest)) (sym (map-append g xs (x ∷ [])) ∙ ap (map g) (sym e));
    }

    pub goes-wrong : (b rest : List ℕ) → HoldsFirst number after b rest → ¬ (P b) → ¬ (AllByRecursion P (held number source))
    goes-wrong b rest is bad all = bad (subst (AllByRecursion P) is.0 (so_far.back all)).0

    pub goes-broken : (fault : WireFault) → (fields after).fault ≡ Some fault → ¬ ((fields source).fault ≡ None)
    goes-broken fault e none = none-some fault (sym none ∙ so_far.ended ∙ e)

    pub goes-ended : HoldsNone number after → (fields source).fault ≡ None
    goes-ended is = so_far.ended ∙ is.1

    pub goes-good : HoldsNone number after → AllByRecursion P (held number source)
    goes-good is = so_far.good (subst (AllByRecursion P) (sym is.0) tt)

    pub goes-value : HoldsNone number after → map g xs ≡ map f (held number source)
    goes-value is = sym (so_far.value ∙ ap (λ (l : List (List ℕ)). map g xs ++ map f l) is.0 ∙ append-nil (map g xs))
