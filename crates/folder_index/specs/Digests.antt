-- Where blocks are, by the starts of their digests.
use Rattle.std.specs.Prelude.{◌≡◌, ◌↔◌, ℕ, ◌<◌, ◌^◌, true, false, List, Contains, map, refl, take}
use Rattle.std.specs.Coded.{Coded, code_by, coded_ℕ, coded×}
use Rattle.std.specs.FinSet as set
use Rattle.std.specs.Int.{from_be_bytes, w64}
use Rattle.std.specs.List.{enumerate_from}
use Rattle.std.specs.List.Sorted.{IsStrictlySortedBy}
use Rattle.std.specs.Ordering.{nat_cmp, ordering_then}
use Rattle.std.specs.declared.cmp.Ordering.{Ordering}
use Rattle.sync_blocks.specs.declared.block.Block.{Block}
use Rattle.folder_core.specs.Codes.{Bytes}

-- the first eight bytes of a digest as a big-endian number
abbrev pub start_of : Bytes → ℕ
start_of hash = from_be_bytes w64 (take 8 hash)

-- the start of a block's digest, the owner of the block, and its place among the owner's blocks
abbrev pub Spot : Type 0
Spot = ℕ × ℕ × ℕ

-- spots are ordered by these in turn
abbrev pub spot_cmp : Spot → Spot → Ordering
spot_cmp x y = ordering_then (ordering_then (nat_cmp x.0 y.0) (nat_cmp x.1 y.1)) (nat_cmp x.2 y.2)

-- where blocks are
abbrev pub Places : Type 0
Places = set.FinSet spot_cmp

abbrev pub coded_places : Coded Places
coded_places = set.code (code_by (ℕ × (ℕ × ℕ)) (coded× coded_ℕ (coded× coded_ℕ coded_ℕ)) (λ s. (s.0, (s.1, s.2))) (λ p. (p.0, p.1.0, p.1.1)) (λ _. refl))

-- a spot's owner and place fit 64 bits
abbrev pub FitsIn64Bits : Spot → Type 0
FitsIn64Bits s = (s.1 < 2 ^ 64) × (s.2 < 2 ^ 64)

-- the spots of an owner's blocks
abbrev pub spots : ℕ → List Block → List Spot
spots owner blocks = map (λ p. (start_of p.1.hash, owner, p.0)) (enumerate_from 0 blocks)

-- the same places with an owner's blocks, and without them
abbrev pub with_blocks : ℕ → List Block → Places → Places
with_blocks owner blocks places = set.union places (set.from_list (spots owner blocks))

abbrev pub without_blocks : ℕ → List Block → Places → Places
without_blocks owner blocks places = set.difference places (set.from_list (spots owner blocks))

-- none is of the owner
abbrev pub HasNone : ℕ → Places → Type 0
HasNone owner places = (start place : ℕ) → set.contains places (start, owner, place) ≡ false

-- What holds of the candidates of a start: they are those of this start, in order.
pub record AreCandidates (start : ℕ) (places : Places) (found : List Spot) : Type 0 where
  pub rises : IsStrictlySortedBy spot_cmp found
  pub are : (s : Spot) → Contains found s ↔ ((s.0 ≡ start) × (set.contains places s ≡ true))
