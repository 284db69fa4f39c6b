use Rattle.std.proofs.Common.{ℕ, List, [], ◌∷◌, ◌++◌, sym, ap, ◌∙◌, append_assoc, arith, take}
use Rattle.std.specs.Prelude.{string_bytes}
use Rattle.sync_names.specs.Base32.{base32_character, short_base32}
use Rattle.sync_names.proofs.Base32Lemmas.{short_base32_more}
use Rattle.sync_names.proofs.base32.push_short_base32.Goals as goal

pub loop-place-preserved : goal.loop-place-preserved
loop-place-preserved c =
    let so_far = c.loop-place.text in
    let one = c.in_ok-push.ensures.ascii c.base32_character.ensures.ascii ∙ ap (λ (x : ℕ). x ∷ []) c.base32_character.ensures.value in
    let last : List ℕ = base32_character c.args.number c.loop-place.place ∷ [] in
    c.in_ok-push.ensures.bytes ∙ ap (λ (l : List ℕ). string_bytes so_far ++ l) one
    ∙ ap (λ (l : List ℕ). l ++ last) c.loop-place.invariant
    ∙ append_assoc (string_bytes c.args.text.now) (take c.loop-place.place (short_base32 c.args.number)) last
    ∙ ap (λ (l : List ℕ). string_bytes c.args.text.now ++ l) (sym (short_base32_more c.args.number c.loop-place.place (omega arith)))
