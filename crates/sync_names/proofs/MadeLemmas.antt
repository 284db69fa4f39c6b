-- The texts of the names that a folder makes.
use Rattle.std.proofs.Common.{◌≡◌, ℕ, Bool, true, false, List, ◌++◌, sym, ap, ◌∙◌, append_assoc}
use Rattle.std.specs.Prelude.{bytes_eq, codes}
use Rattle.std.proofs.lemmas.Bool.{false≢true}
use Rattle.std.proofs.lemmas.Slice.Eq.{bytes_eq-Decides}
use Rattle.sync_names.specs.Base32.{short_base32}
use Rattle.sync_names.specs.Components.{folder_of, last_component}
use Rattle.sync_names.specs.Extension.{stem_of, extension_of}
use Rattle.sync_names.specs.Made.{conflict_text}
use Rattle.sync_names.specs.declared.utc.UtcTime.{UtcTime}
use Rattle.sync_names.specs.Utc.{utc_time, date_digits, time_digits}

appended : (b0 b1 b2 b3 b4 folder stem mark date dash time id extension : List ℕ) → b0 ≡ folder ++ (stem ++ mark) → b1 ≡ b0 ++ (date ++ dash ++ time) → b2 ≡ b1 ++ dash → b3 ≡ b2 ++ id → b4 ≡ b3 ++ extension → b4 ≡ folder ++ (stem ++ (mark ++ date ++ dash ++ time ++ dash ++ id) ++ extension)
appended b0 b1 b2 b3 b4 folder stem mark date dash time id extension e0 e1 e2 e3 e4 =
    rw (e4, e3, e2, e1, e0) (simp append_assoc)

-- the parts into which a name was cut
pub record Cut (name text folder last stem extension : List ℕ) : Type 0 where
  pub same : text ≡ name
  pub folder_is : folder ≡ folder_of text
  pub last_is : last ≡ last_component text
  pub stem_is : stem ≡ stem_of last
  pub extension_is : extension ≡ extension_of last

-- the buffer after each piece was appended
pub record Filled (shown : UtcTime) (modified_by : ℕ) (folder stem extension b0 b1 b2 b3 b4 : List ℕ) : Type 0 where
  pub begun : b0 ≡ folder ++ (stem ++ codes ".sync-conflict-")
  pub date_and_time : b1 ≡ b0 ++ (date_digits shown ++ codes "-" ++ time_digits shown)
  pub dash : b2 ≡ b1 ++ codes "-"
  pub id : b3 ≡ b2 ++ short_base32 modified_by
  pub ended : b4 ≡ b3 ++ extension

pub conflict_made : (name text folder last stem extension b0 b1 b2 b3 b4 : List ℕ) (shown : UtcTime) (moment modified_by : ℕ) → shown ≡ utc_time moment → Cut name text folder last stem extension → Filled shown modified_by folder stem extension b0 b1 b2 b3 b4 → b4 ≡ conflict_text name moment modified_by
conflict_made name text folder last stem extension b0 b1 b2 b3 b4 shown moment modified_by at cut filled =
    let made = appended b0 b1 b2 b3 b4 folder stem (codes ".sync-conflict-") (date_digits shown) (codes "-") (time_digits shown) (short_base32 modified_by) extension filled.begun filled.date_and_time filled.dash filled.id filled.ended in
    let folder_is = cut.folder_is ∙ ap folder_of cut.same in
    let last_is = cut.last_is ∙ ap last_component cut.same in
    let stem_is = cut.stem_is ∙ ap stem_of last_is in
    let extension_is = cut.extension_is ∙ ap extension_of last_is in
    made
    ∙ (λ i. folder_is i ++ (stem_is i ++ (codes ".sync-conflict-" ++ date_digits (at i) ++ codes "-" ++ time_digits (at i) ++ codes "-" ++ short_base32 modified_by) ++ extension_is i))

-- the test of a name's last component
said : (name text last : List ℕ) (test : Bool) → text ≡ name → last ≡ last_component text → test ≡ bytes_eq last (codes ".syncthing.tmp") → test ≡ bytes_eq (last_component name) (codes ".syncthing.tmp")
said name text last test same is e =
    e ∙ ap (λ (l : List ℕ). bytes_eq l (codes ".syncthing.tmp")) (is ∙ ap last_component same)

pub named : (name text last : List ℕ) (test : Bool) → text ≡ name → last ≡ last_component text → test ≡ bytes_eq last (codes ".syncthing.tmp") → test ≡ true → last_component name ≡ codes ".syncthing.tmp"
named name text last test same is e t =
    (bytes_eq-Decides (last_component name) (codes ".syncthing.tmp")).0 (sym (said name text last test same is e) ∙ t)

pub not_named : (name text last : List ℕ) (test : Bool) → text ≡ name → last ≡ last_component text → test ≡ bytes_eq last (codes ".syncthing.tmp") → test ≡ false → ¬ (last_component name ≡ codes ".syncthing.tmp")
not_named name text last test same is e f h =
    false≢true (sym f ∙ said name text last test same is e ∙ (bytes_eq-Decides (last_component name) (codes ".syncthing.tmp")).1 h)
