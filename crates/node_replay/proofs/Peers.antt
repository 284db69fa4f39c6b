-- The index ids of peers, put one by one.
use Rattle.std.proofs.Common.{◌≡◌, ℕ, ◌+◌, ◌<◌, true, false, List, [], ◌∷◌, ◌++◌, get_or, length, map, take, refl, sym, ap, subst, ◌∙◌}
use Rattle.std.specs.Prelude.{cond, Option, Some, None}
use Rattle.std.specs.Cmp.{Equal-is}
use Rattle.std.specs.FinMap.{entries, find, get, get-entries, get-insert, insert, same_map}
use Rattle.std.specs.Option.{option_or}
use Rattle.std.specs.Ordering.{eq_by_cmp}
use Rattle.folder_core.proofs.ListTests.{In, find_in, in_get, in_map, inside, of_map}
use Rattle.folder_core.proofs.Orders.{bytes_total, exact_names}
use Rattle.folder_core.proofs.ReadAnswers.{in_take}
use Rattle.sync_record.specs.Devices.{Identity, bytes_cmp}
use Rattle.node_state.specs.declared.kept.PeerIndex.{PeerIndex}
use Rattle.node_state.specs.Peers.{Peers, pair}
use Rattle.node_replay.proofs.All.{at-place, more}

abbrev pub seen : Identity → List PeerIndex → Option ℕ
seen d ps = find bytes_cmp d (map pair ps)

seen-push : (d : Identity) (ps : List PeerIndex) (p : PeerIndex) → seen d (ps ++ p ∷ []) ≡ option_or (seen d ps) (cond (eq_by_cmp bytes_cmp d p.device) (Some p.index_id) None)
seen-push d [] p = refl
seen-push d (q ∷ ps) p =
    elim (eq_by_cmp bytes_cmp d q.device) as (λ b. cond b (Some q.index_id) (seen d (ps ++ p ∷ [])) ≡ option_or (cond b (Some q.index_id) (seen d ps)) (cond (eq_by_cmp bytes_cmp d p.device) (Some p.index_id) None)) [
      | true ↦ refl
      | false ↦ seen-push d ps p
    ]

or_none : (o : Option ℕ) → o ≡ option_or o None
or_none None = refl
or_none (Some n) = refl

or_same : (o : Option ℕ) (v : ℕ) → ((w : ℕ) → o ≡ Some w → v ≡ w) → Some v ≡ option_or o (Some v)
or_same None v one = refl
or_same (Some w) v one = ap Some (one w refl)

module _ (whole : Peers) (ps : List PeerIndex) (is : map pair ps ≡ entries whole) where
  listed : (p : PeerIndex) → In p ps → get whole p.device ≡ Some p.index_id
  listed p i = in_get bytes_total exact_names whole (pair p) (subst (In (pair p)) is (in_map pair ps p i))

  module _ (i : ℕ) (p : PeerIndex) (lt : i < length ps) (at : p ≡ get_or ps i p) where
    before : (w : ℕ) → seen p.device (take i ps) ≡ Some w → p.index_id ≡ w
    before w e =
        let m = of_map pair (take i ps) (p.device, w) (find_in bytes_total exact_names (map pair (take i ps)) p.device w e) in
        let q : PeerIndex = m.0 in
        let device : q.device ≡ p.device = ap (λ (x : Identity × ℕ). x.0) m.2 in
        let number : q.index_id ≡ w = ap (λ (x : Identity × ℕ). x.1) m.2 in
        inside p.index_id w (sym (listed p (at-place ps i p lt at)) ∙ ap (get whole) (sym device) ∙ listed q (in_take i ps q m.1) ∙ ap Some number)

    pub seen-more : (m : Peers) → ((d : Identity) → get m d ≡ seen d (take i ps)) → (d : Identity) → get (insert m p.device p.index_id) d ≡ seen d (take (i + 1) ps)
    seen-more m so_far d =
        get-insert bytes_total m p.device p.index_id d
        ∙ ap (cond (eq_by_cmp bytes_cmp d p.device) (Some p.index_id)) (so_far d)
        ∙ elim (eq_by_cmp bytes_cmp d p.device) as (λ b. eq_by_cmp bytes_cmp d p.device ≡ b → cond b (Some p.index_id) (seen d (take i ps)) ≡ option_or (seen d (take i ps)) (cond b (Some p.index_id) None)) [
          | true ↦ λ t.
              let same : d ≡ p.device = exact_names d p.device ((Equal-is (bytes_cmp d p.device)).0 t) in
              or_same (seen d (take i ps)) p.index_id (λ w e. before w (ap (λ x. seen x (take i ps)) (sym same) ∙ e))
          | false ↦ λ f. or_none (seen d (take i ps))
        ] refl
        ∙ sym (ap (seen d) (more ps i p lt at) ∙ seen-push d (take i ps) p)

  pub seen-all : (m : Peers) → ((d : Identity) → get m d ≡ seen d ps) → m ≡ whole
  seen-all m each = same_map bytes_total exact_names m whole (λ d. each d ∙ ap (find bytes_cmp d) is ∙ sym (get-entries whole d))
