-- Names that are put in order one after another.
use Rattle.std.proofs.Common.{◌≡◌, ◌∙◌, ◌++◌, ◌∷◌, Bool, true, false, List, [], length, append_assoc, refl, sym, ap, subst, cond, inl, inr, int_eq}
use Rattle.std.specs.Global.{Vec}
use Rattle.std.specs.List.{AllByRecursion, filter}
use Rattle.std.specs.Prelude.{if◌then◌else◌, not, pos, ℤ}
use Rattle.std.proofs.lemmas.List.{append-nil}
use Rattle.std.proofs.lemmas.List.Elements.{filter-append}
use Rattle.sync_record.specs.Records.{is_file, kind_by}
use Rattle.sync_record.specs.declared.kind.Kind.{Kind}
use Rattle.sync_record.specs.declared.kind.Kind.TheVariants.{File, Directory, Other}
use Rattle.node_need.specs.declared.wanted.Wanted.{Wanted}
use Rattle.node_need.specs.Orders.{IsFile, IsGroup, all_of, has_gone, is_there}

-- ---- what is a file

abbrev pub is_file_kind : Kind → Bool
is_file_kind File = true
is_file_kind Directory = false
is_file_kind Other = false

by_tests : (a b : Bool) → is_file_kind (if a then File else (if b then Directory else Other)) ≡ a
by_tests true b = refl
by_tests false true = refl
by_tests false false = refl

pub kind_tells : (n : ℤ) → is_file_kind (kind_by n) ≡ int_eq n (pos 0)
kind_tells n = by_tests (int_eq n (pos 0)) (int_eq n (pos 1))

-- ---- lists

pub all-push : {X : Type 0} (P : X → Type 0) (xs : List X) (x : X) → AllByRecursion P xs → P x → AllByRecursion P (xs ++ x ∷ [])
all-push P [] x all here = (here, tt)
all-push P (y ∷ ys) x all here = (all.0, all-push P ys x all.1 here)

all_of-push : (gs : List (Vec Wanted)) (g : Vec Wanted) → all_of (gs ++ g ∷ []) ≡ all_of gs ++ g.items
all_of-push [] g = append-nil g.items
all_of-push (x ∷ gs) g = ap (λ ws. x.items ++ ws) (all_of-push gs g) ∙ sym (append_assoc x.items (all_of gs) g.items)

takes : (p : Wanted → Bool) (ws : List Wanted) (w : Wanted) → p w ≡ true → filter p (ws ++ w ∷ []) ≡ filter p ws ++ w ∷ []
takes p ws w t = filter-append p ws (w ∷ []) ∙ ap (λ b. filter p ws ++ cond b (w ∷ []) []) t

leaves : (p : Wanted → Bool) (ws : List Wanted) (w : Wanted) → p w ≡ false → filter p (ws ++ w ∷ []) ≡ filter p ws
leaves p ws w t = filter-append p ws (w ∷ []) ∙ ap (λ b. filter p ws ++ cond b (w ∷ []) []) t ∙ append-nil (filter p ws)

-- ---- the names so far

-- the last files stand aside, as more may follow
pub record IsSorting (ws : List Wanted) (gs : List (Vec Wanted)) (fs ds : List Wanted) : Type 0 where
  pub live : all_of gs ++ fs ≡ filter is_there ws
  pub groups : AllByRecursion IsGroup gs
  pub files : AllByRecursion IsFile fs
  pub gone : ds ≡ filter has_gone ws

pub begins : (gs : List (Vec Wanted)) (fs ds : List Wanted) → gs ≡ [] → fs ≡ [] → ds ≡ [] → IsSorting [] gs fs ds
begins gs fs ds g f d = record {
  live = ap (λ xs. all_of xs ++ fs) g ∙ f;
  groups = subst (AllByRecursion IsGroup) (sym g) tt;
  files = subst (AllByRecursion IsFile) (sym f) tt;
  gone = d;
}

module _ (ws : List Wanted) (live : List (Vec Wanted)) (files gone : List Wanted) (s : IsSorting ws live files gone) where
  pub adds_gone : (w : Wanted) → w.best.deleted ≡ true → IsSorting (ws ++ w ∷ []) live files (gone ++ w ∷ [])
  adds_gone w t = record {
    live = s.live ∙ sym (leaves is_there ws w (ap not t));
    groups = s.groups;
    files = s.files;
    gone = ap (λ xs. xs ++ w ∷ []) s.gone ∙ sym (takes has_gone ws w t);
  }

  pub adds_file : (w : Wanted) → w.best.deleted ≡ false → is_file w.best ≡ true → IsSorting (ws ++ w ∷ []) live (files ++ w ∷ []) gone
  adds_file w t f = record {
    live = sym (append_assoc (all_of live) files (w ∷ [])) ∙ ap (λ xs. xs ++ w ∷ []) s.live ∙ sym (takes is_there ws w (ap not t));
    groups = s.groups;
    files = all-push IsFile files w s.files f;
    gone = s.gone ∙ sym (leaves has_gone ws w t);
  }

  pub adds_other : (w : Wanted) (fs one : Vec Wanted) → w.best.deleted ≡ false → fs.items ≡ files → one.items ≡ w ∷ [] → IsSorting (ws ++ w ∷ []) ((live ++ fs ∷ []) ++ one ∷ []) [] gone
  adds_other w fs one t f o = record {
    live =
        append-nil (all_of ((live ++ fs ∷ []) ++ one ∷ []))
        ∙ all_of-push (live ++ fs ∷ []) one
        ∙ ap (λ xs. xs ++ one.items) (all_of-push live fs)
        ∙ ap (λ xs. (all_of live ++ fs.items) ++ xs) o
        ∙ ap (λ xs. (all_of live ++ xs) ++ w ∷ []) f
        ∙ ap (λ xs. xs ++ w ∷ []) s.live
        ∙ sym (takes is_there ws w (ap not t));
    groups =
        all-push IsGroup (live ++ fs ∷ []) one
        (all-push IsGroup live fs s.groups (inl (subst (AllByRecursion IsFile) (sym f) s.files)))
        (inr (ap length o));
    files = tt;
    gone = s.gone ∙ sym (leaves has_gone ws w t);
  }

  pub ends_live : (fs : Vec Wanted) → fs.items ≡ files → all_of (live ++ fs ∷ []) ≡ filter is_there ws
  ends_live fs f = all_of-push live fs ∙ ap (λ xs. all_of live ++ xs) f ∙ s.live

  pub ends_groups : (fs : Vec Wanted) → fs.items ≡ files → AllByRecursion IsGroup (live ++ fs ∷ [])
  ends_groups fs f = all-push IsGroup live fs s.groups (inl (subst (AllByRecursion IsFile) (sym f) s.files))

  pub adds_other_at : (w : Wanted) (fs one : Vec Wanted) → w.best.deleted ≡ false → fs.items ≡ files → one.items ≡ w ∷ []
      → (gs : List (Vec Wanted)) (rest : List Wanted) → gs ≡ (live ++ fs ∷ []) ++ one ∷ [] → rest ≡ [] → IsSorting (ws ++ w ∷ []) gs rest gone
  adds_other_at w fs one t f o gs rest g r =
      subst (λ xs. IsSorting (ws ++ w ∷ []) gs xs gone) (sym r) (subst (λ xs. IsSorting (ws ++ w ∷ []) xs [] gone) (sym g) (adds_other w fs one t f o))
