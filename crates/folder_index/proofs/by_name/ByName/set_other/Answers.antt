use Rattle.std.proofs.Common.{◌≡◌, ◌≢◌, ◌∷◌, List, [], sym, ap, subst, ◌∙◌, arith}
use Rattle.std.specs.Prelude.{bytes_eq, not}
use Rattle.sync_record.specs.Devices.{Identity}
use Rattle.folder_index.specs.declared.noted.Noted.{Noted}
use Rattle.folder_index.specs.Chunks.{groups_in}
use Rattle.folder_index.specs.Groups.{announced_in}
use Rattle.folder_index.specs.Indexes.{IndexState}
use Rattle.folder_index.specs.Noted.{AreNoted, noted_of, raised}
use Rattle.folder_index.proofs.Noting.{all_raised, at_most_all, noted_device}
use Rattle.folder_index.proofs.by_name.ByName.set_other.Goals as goal

pub note-requires : goal.note-requires
note-requires c =
    let i = c.self.inside in
    let d = c.args.device in
    let a = announced_in (groups_in i.names) in
    let ks = i.noted.items in
    let items : c.reserve.new.self.items ≡ ks = c.in_ok-reserve.ensures.items in
    let old : c.noted_of-old.result ≡ noted_of ks d = c.noted_of-old.ensures ∙ ap (λ (l : List Noted). noted_of l d) (c.as_slice.ensures.value ∙ items) in
    let new : c.raised-new.result ≡ raised (c.args.announced ∷ []) (noted_of ks d) = c.raised-new.ensures ∙ (λ j. raised (c.from_ref.ensures.value j) (old j)) in
    let own : c.raised-new.result.device ≡ d = ap (λ (k : Noted). k.device) new ∙ noted_device d ks in
    let few = at_most_all (λ (k : Noted). not (bytes_eq k.device c.raised-new.result.device)) c.reserve.new.self.items in
    omega (arith, c.in_ok-reserve.ensures.ok, c.reserve.new.self.ok.0, c.in_ok-reserve.ensures.len)

pub invariant_of-self-2 : goal.invariant_of-self-2
invariant_of-self-2 c =
    let i = c.self.inside in
    let d = c.args.device in
    let a = announced_in (groups_in i.names) in
    let ks = i.noted.items in
    let items : c.reserve.new.self.items ≡ ks = c.in_ok-reserve.ensures.items in
    let old : c.noted_of-old.result ≡ noted_of ks d = c.noted_of-old.ensures ∙ ap (λ (l : List Noted). noted_of l d) (c.as_slice.ensures.value ∙ items) in
    let new : c.raised-new.result ≡ raised (c.args.announced ∷ []) (noted_of ks d) = c.raised-new.ensures ∙ (λ j. raised (c.from_ref.ensures.value j) (old j)) in
    let own : c.raised-new.result.device ≡ d = ap (λ (k : Noted). k.device) new ∙ noted_device d ks in
    let here : noted_of c.note.new.noted.items d ≡ raised (c.args.announced ∷ []) (noted_of ks d) = ap (noted_of c.note.new.noted.items) (sym own) ∙ c.note.ensures.here ∙ new in
    let others : (e : Identity) → e ≢ d → noted_of c.note.new.noted.items e ≡ noted_of ks e = λ e other. c.note.ensures.others e (λ s. other (s ∙ own)) ∙ ap (λ (l : List Noted). noted_of l e) items in
    record {
      chunked = c.in_ok-self-inside.ensures.groups;
      noted = subst (AreNoted i.me c.note.new.noted.items) (sym c.in_ok-self-inside.ensures.placed)
          (all_raised i.me d (c.args.announced ∷ []) a ks c.note.new.noted.items (λ s. c.requires (s ∙ ap (λ (s : IndexState). s.me) c.self.view_is)) (tt, tt) (λ e. cc) c.self.invariant.noted here others);
    }
