-- A ClusterConfig, one more folder at a time.
use Rattle.std.proofs.Common.{◌≡◌, ◌+◌, ◌++◌, ◌∷◌, [], ℕ, suc, List, length, refl, sym, ◌∙◌, ap, arith, append_assoc, append-nil}
use Rattle.bep_messages.specs.declared.cluster_config.ClusterConfig.{ClusterConfig}
use Rattle.peer_reader.specs.declared.counts.ReaderCounts.{ReaderCounts}
use Rattle.peer_reader.specs.Effects.{Heard, Made, count_changes, forgets, forgets_one}
use Rattle.sync_record.specs.Devices.{Identity}

pub count_changes-append : (xs ys : List Made) (c : ReaderCounts) → count_changes (xs ++ ys) c ≡ count_changes ys (count_changes xs c)
count_changes-append [] ys c = refl
count_changes-append (x ∷ xs) ys c = count_changes-append xs ys _

-- the folders after one more
pub forgets-more : (peer : Identity) (config : ClusterConfig) (k : ℕ) (fs : List Heard) (f : Heard)
    → forgets peer config k (fs ++ f ∷ []) ≡ forgets peer config k fs ++ forgets_one peer config (k + length fs) f
forgets-more peer config k [] f =
    let place : k ≡ k + 0 = omega arith in
    append-nil (forgets_one peer config k f) ∙ ap (λ (p : ℕ). forgets_one peer config p f) place
forgets-more peer config k (g ∷ fs) f =
    let place : (k + 1) + length fs ≡ k + suc (length fs) = omega arith in
    let one = forgets_one peer config k g in
    let later = forgets peer config (k + 1) fs in
    ap (λ l. one ++ l) (forgets-more peer config (k + 1) fs f)
    ∙ sym (append_assoc one later (forgets_one peer config ((k + 1) + length fs) f))
    ∙ ap (λ (p : ℕ). (one ++ later) ++ forgets_one peer config p f) place
