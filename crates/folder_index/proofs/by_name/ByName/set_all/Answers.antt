use Rattle.std.proofs.Common.{◌≡◌, ◌≢◌, List, [], length, sym, ap, subst, ◌∙◌, arith}
use Rattle.std.specs.Prelude.{bytes_eq, not}
use Rattle.std.proofs.lemmas.List.{nil_from_length}
use Rattle.sync_record.specs.Devices.{Identity}
use Rattle.sync_record.specs.Records.{FileRecord}
use Rattle.folder_core.specs.Announced.{announce}
use Rattle.folder_index.specs.declared.noted.Noted.{Noted}
use Rattle.folder_index.specs.Chunks.{groups_in}
use Rattle.folder_index.specs.Groups.{announced_in}
use Rattle.folder_index.specs.Indexes.{AreApart, IndexState}
use Rattle.folder_index.specs.Noted.{AreKeptByName, AreNoted, noted_of, raised}
use Rattle.folder_index.proofs.Noting.{all_raised, at_most_all, noted_device}
use Rattle.folder_index.proofs.by_name.ByName.set_all.Goals as goal
use Rattle.folder_index.proofs.by_name.ByName.set_all.Goals.{then-count-gt0, else-count-gt0}

pub note-requires : goal.note-requires
note-requires c =
    let i = c.self.inside in
    let d = c.args.device in
    let a = announced_in (groups_in i.names) in
    let ks = i.noted.items in
    let rs = c.into_vec-records.result.items in
    let items : c.reserve.new.self.items ≡ ks = c.in_ok-reserve.ensures.items in
    let old : c.noted_of-old.result ≡ noted_of ks d = c.noted_of-old.ensures ∙ ap (λ (l : List Noted). noted_of l d) (c.as_slice.ensures.value ∙ items) in
    let new : c.raised-new.result ≡ raised rs (noted_of ks d) = c.raised-new.ensures ∙ (λ j. raised (c.as_slice-2.ensures.value j) (old j)) in
    let own : c.raised-new.result.device ≡ d = ap (λ (k : Noted). k.device) new ∙ noted_device d ks in
    let few = at_most_all (λ (k : Noted). not (bytes_eq k.device c.raised-new.result.device)) c.reserve.new.self.items in
    omega (arith, c.in_ok-reserve.ensures.ok, c.reserve.new.self.ok.0, c.in_ok-reserve.ensures.len)

pub invariant_of-self-2 : goal.invariant_of-self-2
invariant_of-self-2 c =
    let i = c.self.inside in
    let d = c.args.device in
    let a = announced_in (groups_in i.names) in
    let ks = i.noted.items in
    let rs = c.into_vec-records.result.items in
    let items : c.reserve.new.self.items ≡ ks = c.in_ok-reserve.ensures.items in
    let old : c.noted_of-old.result ≡ noted_of ks d = c.noted_of-old.ensures ∙ ap (λ (l : List Noted). noted_of l d) (c.as_slice.ensures.value ∙ items) in
    let new : c.raised-new.result ≡ raised rs (noted_of ks d) = c.raised-new.ensures ∙ (λ j. raised (c.as_slice-2.ensures.value j) (old j)) in
    let own : c.raised-new.result.device ≡ d = ap (λ (k : Noted). k.device) new ∙ noted_device d ks in
    let placed : announced_in (groups_in c.put_all-self-inside.new.names) ≡ announce d rs a = c.put_all-self-inside.ensures.placed ∙ ap (announce d rs) c.spare_all.ensures.kept in
    elim c.if-count-gt0.branch [
      | then-count-gt0 w ↦ (
          let some : rs ≢ [] = λ e. (let len = ap (λ (l : List FileRecord). length l) e in let all = c.into_vec-records.result.ok.0 in let count = c.len-count.ensures in let more = w.if-count-gt0.true in absurd (omega arith)) in
          let here : noted_of w.note.new.noted.items d ≡ raised rs (noted_of ks d) = ap (noted_of w.note.new.noted.items) (sym own) ∙ w.note.ensures.here ∙ new in
          let others : (e : Identity) → e ≢ d → noted_of w.note.new.noted.items e ≡ noted_of ks e = λ e other. w.note.ensures.others e (λ s. other (s ∙ own)) ∙ ap (λ (l : List Noted). noted_of l e) items in
          let apart : AreApart rs = subst AreApart (sym c.into_vec-records.ensures) c.requires.apart in
          let noted = subst (AreNoted i.me w.note.new.noted.items) (sym placed) (all_raised i.me d rs a ks w.note.new.noted.items (λ s. c.requires.other (s ∙ ap (λ (s : IndexState). s.me) c.self.view_is)) apart some c.self.invariant.noted here others) in
          subst (λ (f : _). AreKeptByName f.me f.names f.totals f.noted.items) (sym w.self-inside-is) (record { chunked = c.put_all-self-inside.ensures.groups; noted = noted }))
      | else-count-gt0 w ↦ (
          let none : rs ≡ [] = nil_from_length rs (let all = c.into_vec-records.result.ok.0 in let count = c.len-count.ensures in let no_more = w.if-count-gt0.false in omega arith) in
          let noted = subst (λ (l : List Noted). AreNoted i.me l (announced_in (groups_in c.put_all-self-inside.new.names))) (sym items) (subst (AreNoted i.me ks) (sym (placed ∙ ap (λ (l : List FileRecord). announce d l a) none)) c.self.invariant.noted) in
          subst (λ (f : _). AreKeptByName f.me f.names f.totals f.noted.items) (sym w.self-inside-is) (record { chunked = c.put_all-self-inside.ensures.groups; noted = noted }))
    ]
