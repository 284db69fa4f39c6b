-- What is told of folders, turn by turn.
use Rattle.std.proofs.Common.{◌≡◌, ℕ, Bool, true, false, zero, suc, ◌<◌, ◌+◌, List, [], ◌∷◌, ◌++◌, length, take, get_or, set, Option, Some, None, refl, sym, ap, subst, ◌∙◌, append_assoc, append-nil, arith}
use Rattle.std.specs.Prelude.{⊤, IsSome, slice_get, unwrap_or}
use Rattle.std.specs.List.{AllZip}
use Rattle.std.proofs.Math.Seq.{take-suc}
use Rattle.std.proofs.lemmas.Option.{get_or_from_slice_get, slice_get-get_or, slice_get_within}
use Rattle.bep_frames.specs.declared.frame.Message.{Message}
use Rattle.bep_messages.specs.declared.cluster_config.ClusterConfig.{ClusterConfig}
use Rattle.folder_calls.specs.Shared.{CallerView, Sees, now}
use Rattle.index_sender.specs.Pages.{Progress, sending_from}
use Rattle.folder_core.specs.Reads.{known}
use Rattle.peer_conn.specs.Configs.{folder_in, start_in}
use Rattle.peer_conn.specs.Indexing.{BeginsAt, IsPing, Tells, nothing, page, no_page, ping}
use Rattle.peer_conn.specs.Turns.{GivesMessage, OnlySees, Turns}
use Rattle.peer_conn.specs.declared.indexer.IndexerFolder.{IndexerFolder}
use Rattle.peer_conn.specs.declared.turn.Turn.{Turn}
use Rattle.peer_conn.specs.declared.turn.Turn.TheVariants.{Put, Nothing, Waiting, Ended}
use Rattle.peer_conn.specs.declared.turn.TurnEnd.{TurnEnd}
use Rattle.peer_conn.specs.declared.turn.TurnEnd.TheVariants.{OutOfMemory, Gone}
use Rattle.peer_conn.proofs.Seeing.{sees_together}

module _ {A B : Type 0} (R : A → B → Type 0) where
  -- the elements at one place
  pub zip-at : (l : List A) (m : List B) (i : ℕ) (y : B) → AllZip R l m → slice_get m i ≡ Some y → (x : A) × (slice_get l i ≡ Some x) × R x y
  zip-at [] [] i y h e = absurd (cc)
  zip-at [] (b ∷ bs) i y h e = absurd h
  zip-at (a ∷ rest) [] i y h e = absurd h
  zip-at (a ∷ rest) (b ∷ bs) zero y h e = (a, refl, subst (λ z. R a z) (ap (λ o. unwrap_or o b) e) h.0)
  zip-at (a ∷ rest) (b ∷ bs) (suc i) y h e = zip-at rest bs i y h.1 e

  pub zip-push : (l : List A) (m : List B) (x : A) (y : B) → AllZip R l m → R x y → AllZip R (l ++ x ∷ []) (m ++ y ∷ [])
  zip-push [] [] x y h r = (r, tt)
  zip-push [] (b ∷ bs) x y h r = absurd h
  zip-push (a ∷ rest) [] x y h r = absurd h
  zip-push (a ∷ rest) (b ∷ bs) x y h r = (h.0, zip-push rest bs x y h.1 r)

-- what was told is what was told before, and then more
pub record HasTold {W F : Type 0} (folder : W → F) (view : W → CallerView) (says : F → ℕ → Type 0) (fs : List (IndexerFolder W)) (start told : List (Option Progress)) (before after : List Message) : Type 0 where
  pub more : List Message
  pub put : after ≡ before ++ more
  pub tells : Tells folder view says fs start told more

-- the turn is not the last
abbrev pub Goes : Turn → Type 0
Goes Put = ⊤
Goes Nothing = ⊤
Goes Waiting = ⊤
Goes (Ended e) = ⊥

module _ {W F : Type 0} (folder : W → F) (view : W → CallerView) (says : F → ℕ → Type 0) where
  pub told-none : (fs : List (IndexerFolder W)) (start : List (Option Progress)) (before : List Message) → HasTold folder view says fs start start before before
  told-none fs start before = record { more = []; put = sym (append-nil before); tells = nothing }

  tells-then : (fs : List (IndexerFolder W)) (a b c : List (Option Progress)) (m n : List Message) → Tells folder view says fs a b m → Tells folder view says fs b c n → Tells folder view says fs a c (m ++ n)
  tells-then fs a b _ m _ x nothing = subst (Tells folder view says fs a b) (sym (append-nil m)) x
  tells-then fs a b _ m _ x (page told more i f old new v kept w k y at was sees said gives) =
      subst (Tells folder view says fs a (set told i (Some new))) (append_assoc m more (k ∷ []))
      (page told (m ++ more) i f old new v kept w k (tells-then fs a b told m more x y) at was sees said gives)
  tells-then fs a b _ m _ x (no_page told more i f old new v kept w y at was sees said gives) =
      no_page told (m ++ more) i f old new v kept w (tells-then fs a b told m more x y) at was sees said gives
  tells-then fs a b _ m _ x (ping told more k y is) =
      subst (Tells folder view says fs a told) (append_assoc m more (k ∷ [])) (ping told (m ++ more) k (tells-then fs a b told m more x y) is)

  -- the same of the folders as they were before
  tells-before : (fs gs : List (IndexerFolder W)) → AllZip (OnlySees folder view) fs gs → (a b : List (Option Progress)) (m : List Message) → Tells folder view says gs a b m → Tells folder view says fs a b m
  tells-before fs gs only a _ _ nothing = nothing
  tells-before fs gs only a _ _ (page told more i f old new v kept w k y at was sees said gives) =
      let x = zip-at (OnlySees folder view) fs gs i f only at in
      page told more i x.0 old new v kept w k (tells-before fs gs only a told more y) x.1 was (sees_together _ _ v x.2.sees sees)
      (subst (λ h. says h kept) x.2.folder_is said) (subst (λ (id : List ℕ). GivesMessage id kept v old new w (Some k)) x.2.id gives)
  tells-before fs gs only a _ _ (no_page told more i f old new v kept w y at was sees said gives) =
      let x = zip-at (OnlySees folder view) fs gs i f only at in
      no_page told more i x.0 old new v kept w (tells-before fs gs only a told more y) x.1 was (sees_together _ _ v x.2.sees sees)
      (subst (λ h. says h kept) x.2.folder_is said) (subst (λ (id : List ℕ). GivesMessage id kept v old new w None) x.2.id gives)
  tells-before fs gs only a _ _ (ping told more k y is) = ping told more k (tells-before fs gs only a told more y) is

  pub told-then : (fs gs : List (IndexerFolder W)) → AllZip (OnlySees folder view) fs gs → (a b c : List (Option Progress)) (before then after : List Message)
      → HasTold folder view says fs a b before then → HasTold folder view says gs b c then after → HasTold folder view says fs a c before after
  told-then fs gs only a b c before then after x y = record {
    more = x.more ++ y.more;
    put = y.put ∙ ap (λ l. l ++ y.more) x.put ∙ append_assoc before x.more y.more;
    tells = tells-then fs a b c x.more y.more x.tells (tells-before fs gs only b c y.more y.tells);
  }

  pub told-ping : (fs : List (IndexerFolder W)) (a b : List (Option Progress)) (before then after : List Message) (m : Message) → HasTold folder view says fs a b before then → IsPing m → after ≡ then ++ m ∷ []
      → HasTold folder view says fs a b before after
  told-ping fs a b before then after m x is put = record {
    more = x.more ++ m ∷ [];
    put = put ∙ ap (λ l. l ++ m ∷ []) x.put ∙ append_assoc before x.more (m ∷ []);
    tells = ping b x.more m x.tells is;
  }

  -- a turn in which nothing is put
  told-nothing : (fs gs : List (IndexerFolder W)) → AllZip (OnlySees folder view) fs gs → (start told : List (Option Progress)) (before then after : List Message) (i : ℕ) (f : IndexerFolder W) (old new : Progress)
      (v : CallerView) (kept : ℕ) → slice_get gs i ≡ Some f → slice_get told i ≡ Some (Some old) → Sees (view f.calls) v → says (folder f.calls) kept → HasTold folder view says fs start told before then
      → (w : Bool) → GivesMessage f.id kept v old new w None → after ≡ then → HasTold folder view says fs start (set told i (Some new)) before after
  told-nothing fs gs only start told before then after i f old new v kept at was sees said x w gives same =
      let y = zip-at (OnlySees folder view) fs gs i f only at in
      record {
        more = x.more;
        put = same ∙ x.put;
        tells = no_page told x.more i y.0 old new v kept w x.tells y.1 was (sees_together _ _ v y.2.sees sees) (subst (λ h. says h kept) y.2.folder_is said)
            (subst (λ (id : List ℕ). GivesMessage id kept v old new w None) y.2.id gives);
      }

  -- a turn of the folder at a place
  pub told-turn : (fs gs : List (IndexerFolder W)) → AllZip (OnlySees folder view) fs gs → (start told : List (Option Progress)) (before then after : List Message) (i : ℕ) (f : IndexerFolder W) (old new : Progress)
      (v : CallerView) (kept : ℕ) → slice_get gs i ≡ Some f → slice_get told i ≡ Some (Some old) → Sees (view f.calls) v → says (folder f.calls) kept → HasTold folder view says fs start told before then
      → (t : Turn) → Turns f.id kept v old new then after t → Goes t → HasTold folder view says fs start (set told i (Some new)) before after
  told-turn fs gs only start told before then after i f old new v kept at was sees said x Put h goes =
      let y = zip-at (OnlySees folder view) fs gs i f only at in
      record {
        more = x.more ++ h.1 ∷ [];
        put = h.3 ∙ ap (λ l. l ++ h.1 ∷ []) x.put ∙ append_assoc before x.more (h.1 ∷ []);
        tells = page told x.more i y.0 old new v kept h.0 h.1 x.tells y.1 was (sees_together _ _ v y.2.sees sees) (subst (λ h. says h kept) y.2.folder_is said)
            (subst (λ (id : List ℕ). GivesMessage id kept v old new h.0 (Some h.1)) y.2.id h.2);
      }
  told-turn fs gs only start told before then after i f old new v kept at was sees said x Nothing h goes =
      told-nothing fs gs only start told before then after i f old new v kept at was sees said x false h.0 h.1
  told-turn fs gs only start told before then after i f old new v kept at was sees said x Waiting h goes =
      told-nothing fs gs only start told before then after i f old new v kept at was sees said x true h.0 h.1
  told-turn fs gs only start told before then after i f old new v kept at was sees said x (Ended e) h goes = absurd goes

  pub told-ended : (fs : List (IndexerFolder W)) (start told : List (Option Progress)) (before then after : List Message) (id : List ℕ) (kept : ℕ) (old new : Progress) (v : CallerView) (e : TurnEnd)
      → HasTold folder view says fs start told before then → Turns id kept v old new then after (Ended e) → HasTold folder view says fs start told before after
  told-ended fs start told before then after id kept old new v OutOfMemory x h = record { more = x.more; put = h.1 ∙ x.put; tells = x.tells }
  told-ended fs start told before then after id kept old new v Gone x h = record { more = x.more; put = h.3 ∙ x.put; tells = x.tells }

  -- what was told of the folders, up to these places
  abbrev pub ToldTo : List (IndexerFolder W) → List (Option Progress) → List (Option Progress) → List Message → List Message → Type 0
  ToldTo fs start to before after = (end : List (Option Progress)) × (more : List Message) × (after ≡ before ++ more) × Tells folder view says fs start end more × (end ≡ to)

  pub told-pinged : (fs : List (IndexerFolder W)) (start to : List (Option Progress)) (before then after : List Message) (m : Message) → ToldTo fs start to before then → IsPing m → after ≡ then ++ m ∷ []
      → ToldTo fs start to before after
  told-pinged fs start to before then after m x is put =
      (x.0, x.1 ++ m ∷ [], put ∙ ap (λ l. l ++ m ∷ []) x.2 ∙ append_assoc before x.1 (m ∷ []), ping x.0 x.1 m x.3 is, x.4)

  pub has-told : (fs : List (IndexerFolder W)) (start to : List (Option Progress)) (before after : List Message) → ToldTo fs start to before after → HasTold folder view says fs start to before after
  has-told fs start to before after x = record { more = x.1; put = x.2; tells = subst (λ (l : List (Option Progress)). Tells folder view says fs start l x.1) x.4 x.3 }

module _ {W F : Type 0} (folder : W → F) (view : W → CallerView) where
  -- the next of the folders is told from where its sender begins
  pub begins-push : (config : ClusterConfig) (fs gs : List (IndexerFolder W)) (i : ℕ) (d : IndexerFolder W) (senders : List (Option Progress)) (s : Option Progress)
      → AllZip (OnlySees folder view) fs gs → i < length gs → AllZip (BeginsAt view config) (take i fs) senders → BeginsAt view config (get_or gs i d) s
      → AllZip (BeginsAt view config) (take (i + 1) fs) (senders ++ s ∷ [])
  begins-push config fs gs i d senders s only lt before at =
      let x = zip-at (OnlySees folder view) fs gs i (get_or gs i d) only (slice_get-get_or gs i d lt) in
      let within = slice_get_within fs i x.0 x.1 in
      let one : i + 1 ≡ suc i = omega arith in
      let is : x.0 ≡ get_or fs i x.0 = sym (get_or_from_slice_get fs i x.0 x.0 x.1) in
      subst (λ (l : List (IndexerFolder W)). AllZip (BeginsAt view config) l (senders ++ s ∷ [])) (sym (ap (λ k. take k fs) one ∙ take-suc fs i x.0 within ∙ ap (λ y. take i fs ++ y ∷ []) (sym is)))
      (zip-push (BeginsAt view config) (take i fs) senders x.0 s before (begins-before x.0 (get_or gs i d) s x.2 at))
    where
      begins-before : (f g : IndexerFolder W) (s : Option Progress) → OnlySees folder view f g → BeginsAt view config g s → BeginsAt view config f s
      begins-before f g None o h = subst (λ (id : List ℕ). folder_in id config ≡ None) o.id h
      begins-before f g (Some s) o h = (
        subst (λ (id : List ℕ). IsSome (folder_in id config)) o.id h.0,
        h.1,
        sees_together (view f.calls) (view g.calls) h.1 o.sees h.2,
        h.3 ∙ ap (λ (id : List ℕ). sending_from (start_in config id h.1.opening.me g.index_id (known (now h.1) h.1.opening.me))) o.id
            ∙ ap (λ (k : ℕ). sending_from (start_in config f.id h.1.opening.me k (known (now h.1) h.1.opening.me))) o.index_id,
      )
