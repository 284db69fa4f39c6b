-- What frames tell of the pages that they have.
use Rattle.std.proofs.Common.{◌≡◌, ℕ, List, [], ◌∷◌, ◌++◌, refl, sym, ap, ◌∙◌, arith, append-nil}
use Rattle.std.specs.Prelude.{bytes_eq, cond, filter, flat_map, fold, map, max}
use Rattle.std.specs.List.{AllByRecursion}
use Rattle.std.proofs.lemmas.Grind.{flat_map-append}
use Rattle.std.proofs.lemmas.List.{map-append}
use Rattle.std.proofs.lemmas.List.Elements.{filter-append}
use Rattle.std.proofs.lemmas.List.Sums.{fold-append}
use Rattle.folder_core.proofs.ListTests.{alike_bytes}
use Rattle.index_sender.specs.Pages.{last_sequence, records_of}
use Rattle.index_sender.specs.declared.page.Page.{Page}
use Rattle.node_journal.specs.declared.frame.Frame.{Frame}
use Rattle.node_journal.specs.declared.part.Part.{Part}
use Rattle.node_replay.specs.Told.{lasts_told, parts_of, records_told}
use Rattle.node_saver.specs.Frames.{last_of, records_frame}
use Rattle.node_saver.specs.Saving.{IsReadAgain, records_in}
use Rattle.node_saver.specs.declared.frames.SavedFolder.{SavedFolder}
use Rattle.sync_record.specs.Infos.{info_of, natural, record_of}
use Rattle.sync_record.specs.Records.{FileRecord}
use Rattle.proof_journal.specs.Appended.{HavePages, IsSilent, no_page, one_page, other}
use Rattle.proof_journal.proofs.LastRecords.{lasts_in}

-- ---- parts

abbrev part_of : SavedFolder → List FileRecord → Part
part_of f rs = record { id = f.id; index_id = f.index_id; last = last_of rs; records = map info_of rs; plans = [] }

parts-page : (f : SavedFolder) (rs : List FileRecord) (frames : List Frame) → parts_of f.id (records_frame f rs ∷ frames) ≡ part_of f rs ∷ parts_of f.id frames
parts-page f rs frames = ap (λ b. cond b (part_of f rs ∷ parts_of f.id frames) (parts_of f.id frames)) (alike_bytes f.id f.id refl)

parts-other : (id : List ℕ) (frame : Frame) (frames : List Frame) → parts_of id (frame ∷ frames) ≡ parts_of id (frame ∷ []) ++ parts_of id frames
parts-other id frame frames =
    filter-append (λ (p : Part). bytes_eq p.id id) frame.folders (flat_map (λ (g : Frame). g.folders) frames)
    ∙ ap (λ l. filter (λ (p : Part). bytes_eq p.id id) l ++ parts_of id frames) (sym (append-nil frame.folders))

no-records : (parts : List Part) → AllByRecursion IsSilent parts → records_told parts ≡ []
no-records [] all = refl
no-records (p ∷ parts) all = ap (λ l. map record_of l ++ records_told parts) all.0.0 ∙ no-records parts all.1

no-lasts : (k : ℕ) (parts : List Part) → AllByRecursion IsSilent parts → fold max k (lasts_told parts) ≡ k
no-lasts k [] all = refl
no-lasts k (p ∷ parts) all =
    let same : max k (natural p.last) ≡ k = (let none : natural p.last ≡ 0 = all.0.1 in omega arith) in
    ap (λ m. fold max m (lasts_told parts)) same ∙ no-lasts k parts all.1

-- ---- records

abbrev read_again : FileRecord → FileRecord
read_again r = record_of (info_of r)

infos-read : (rs : List FileRecord) → map record_of (map info_of rs) ≡ map read_again rs
infos-read [] = refl
infos-read (r ∷ rs) = ap (λ l. read_again r ∷ l) (infos-read rs)

as-they-were : (rs : List FileRecord) → AllByRecursion IsReadAgain rs → map read_again rs ≡ rs
as-they-were [] all = refl
as-they-were (r ∷ rs) all = λ i. all.0 i ∷ as-they-were rs all.1 i

told-again : (f : SavedFolder) (pages : List Page) (frames : List Frame) → HavePages f pages frames → records_told (parts_of f.id frames) ≡ map read_again (records_in pages)
told-again f pages frames no_page = refl
told-again f pages frames (one_page page before rest have) =
    ap records_told (parts-page f (records_of page) rest)
    ∙ (λ i. infos-read (records_of page) i ++ told-again f before rest have i)
    ∙ sym (map-append read_again (records_of page) (records_in before))
told-again f pages frames (other frame before rest none have) =
    ap records_told (parts-other f.id frame rest)
    ∙ flat_map-append (λ (p : Part). map record_of p.records) (parts_of f.id (frame ∷ [])) (parts_of f.id rest)
    ∙ ap (λ l. l ++ records_told (parts_of f.id rest)) (no-records (parts_of f.id (frame ∷ [])) none)
    ∙ told-again f before rest have

-- the records that they tell are those of the pages
pub told-records : (f : SavedFolder) (pages : List Page) (frames : List Frame) → HavePages f pages frames → AllByRecursion IsReadAgain (records_in pages)
    → records_told (parts_of f.id frames) ≡ records_in pages
told-records f pages frames have again = told-again f pages frames have ∙ as-they-were (records_in pages) again

-- and the last sequences those of the pages, or none
pub told-lasts : (f : SavedFolder) (pages : List Page) (frames : List Frame) → HavePages f pages frames → (k : ℕ)
    → fold max k (lasts_told (parts_of f.id frames)) ≡ fold max k (lasts_in pages)
told-lasts f pages frames no_page k = refl
told-lasts f pages frames (one_page page before rest have) k =
    ap (λ ps. fold max k (lasts_told ps)) (parts-page f (records_of page) rest)
    ∙ told-lasts f before rest have (max k (last_sequence 0 (records_of page)))
told-lasts f pages frames (other frame before rest none have) k =
    ap (λ ps. fold max k (lasts_told ps)) (parts-other f.id frame rest)
    ∙ ap (fold max k) (map-append (λ (p : Part). natural p.last) (parts_of f.id (frame ∷ [])) (parts_of f.id rest))
    ∙ fold-append max k (lasts_told (parts_of f.id (frame ∷ []))) (lasts_told (parts_of f.id rest))
    ∙ ap (λ m. fold max m (lasts_told (parts_of f.id rest))) (no-lasts k (parts_of f.id (frame ∷ [])) none)
    ∙ told-lasts f before rest have k
