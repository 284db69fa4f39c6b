-- The marks of the blocks that were put.
use Rattle.std.proofs.Common.{◌≡◌, ℕ, zero, suc, ◌<◌, Bool, true, false, List, [], ◌∷◌, map, length, All, IsTrue, refl, sym, subst, ap, rules, arith, slice_index_or, slice_set}
use Rattle.std.specs.Prelude.{replicate, IfSome, slice_get, bytes_eq, not, ◌==◌, if◌then◌else◌}
use Rattle.std.specs.List.{AllZip, list_all}
use Rattle.std.specs.Cmp.Lexicographic.{same_text}
use Rattle.std.proofs.lemmas.Bool.{and_parts, eqb-true}
use Rattle.std.proofs.lemmas.Option.{slice_get-get_or}
use Rattle.std.proofs.lemmas.List.Elements.{All-cons, All-nil}
use Rattle.sync_blocks.specs.declared.block.Block.{Block}
use Rattle.sha2.specs.Sha256.{sha256}
use Rattle.sync_record.specs.declared.put.Put.{Put}
use Rattle.sync_record.specs.declared.put.Put.TheVariants.{WrongSize, WrongHash, Ok}
use Rattle.sync_record.specs.Assemblies.{HasBytes, put_answer}

abbrev pub IsPlaced : Bool → Block → Type 0
IsPlaced placed b = IsTrue placed → HasBytes b

pub as_long : (ps : List Bool) (bs : List Block) → AllZip IsPlaced ps bs → length ps ≡ length bs
as_long [] [] h = refl
as_long [] (b ∷ bs) h = absurd h
as_long (p ∷ ps) [] h = absurd h
as_long (p ∷ ps) (b ∷ bs) h = ap suc (as_long ps bs h.1)

pub none_placed : (bs : List Block) → AllZip IsPlaced (map (λ b. false) bs) bs
none_placed [] = tt
none_placed (b ∷ bs) = (λ h. search (rules, h), none_placed bs)

pub placed_at : (ps : List Bool) (bs : List Block) (i : ℕ) (d : Block) → AllZip IsPlaced ps bs → i < length bs
    → HasBytes (slice_index_or bs i d) → AllZip IsPlaced (slice_set ps i true) bs
placed_at [] [] i d h lt has = tt
placed_at [] (b ∷ bs) i d h lt has = absurd h
placed_at (p ∷ ps) [] i d h lt has = absurd h
placed_at (p ∷ ps) (b ∷ bs) zero d h lt has = (λ placed. has, h.1)
placed_at (p ∷ ps) (b ∷ bs) (suc i) d h lt has = (h.0, placed_at ps bs i d h.1 (omega arith) has)

pub all_placed : (ps : List Bool) (bs : List Block) → AllZip IsPlaced ps bs → list_all (λ p. p) ps ≡ true → All HasBytes bs
all_placed [] [] h all = All-nil HasBytes
all_placed [] (b ∷ bs) h all = absurd h
all_placed (p ∷ ps) [] h all = absurd h
all_placed (p ∷ ps) (b ∷ bs) h all =
    let parts = and_parts p (list_all (λ q. q) ps) all in
    All-cons HasBytes b bs (h.0 parts.0) (all_placed ps bs h.1 parts.1)

pub replicate_is : (bs : List Block) → replicate (length bs) false ≡ map (λ b. false) bs
replicate_is [] = refl
replicate_is (b ∷ bs) = ap (λ ps. false ∷ ps) (replicate_is bs)

-- a put that comes to Ok has the block's bytes
answered : (b : Block) (bytes : List ℕ) (sized matched : Bool) → (length bytes == b.size) ≡ sized → bytes_eq (sha256 bytes) b.hash ≡ matched
    → (if not sized then WrongSize else (if not matched then WrongHash else Ok)) ≡ Ok → HasBytes b
answered b bytes true true s m e = record { bytes = bytes; size = eqb-true _ _ s; digest = same_text _ _ (sym m) }
answered b bytes true false s m e = absurd (search (rules, e))
answered b bytes false matched s m e = absurd (search (rules, e))

pub put_has : (b : Block) (bytes : List ℕ) → put_answer b bytes ≡ Ok → HasBytes b
put_has b bytes e = answered b bytes _ _ refl refl e

-- a block that is in no place
abbrev pub nothing : Block
nothing = record { offset = 0; size = 0; hash = [] }

pub answered_at : (bs : List Block) (i : ℕ) (bytes : List ℕ) (answer : Put) → i < length bs
    → answer ≡ put_answer (slice_index_or bs i nothing) bytes → IfSome (slice_get bs i) (λ b. answer ≡ put_answer b bytes)
answered_at bs i bytes answer lt is =
    subst (λ found. IfSome found (λ b. answer ≡ put_answer b bytes)) (sym (slice_get-get_or bs i nothing lt)) is
