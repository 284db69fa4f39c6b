-- The characters of a short base32 text, one at a time.
use Rattle.std.proofs.Common.{◌≡◌, ℕ, zero, suc, ◌+◌, ◌<◌, [], ◌∷◌, ◌++◌, get_or, take, refl, ap, ◌∙◌, arith}
use Rattle.std.proofs.lemmas.List.{take_more}
use Rattle.sync_names.specs.Base32.{base32_character, short_base32}

character_at : (number place : ℕ) → place < 7 → get_or (short_base32 number) place 0 ≡ base32_character number place
character_at number zero h = refl
character_at number (suc zero) h = refl
character_at number (suc (suc zero)) h = refl
character_at number (suc (suc (suc zero))) h = refl
character_at number (suc (suc (suc (suc zero)))) h = refl
character_at number (suc (suc (suc (suc (suc zero))))) h = refl
character_at number (suc (suc (suc (suc (suc (suc zero)))))) h = refl
character_at number (suc (suc (suc (suc (suc (suc (suc n))))))) h = absurd (omega arith)

pub short_base32_more : (number place : ℕ) → place < 7 → take (place + 1) (short_base32 number) ≡ take place (short_base32 number) ++ base32_character number place ∷ []
short_base32_more number place h =
    take_more (short_base32 number) place 0 h
    ∙ ap (λ (x : ℕ). take place (short_base32 number) ++ x ∷ []) (character_at number place h)
