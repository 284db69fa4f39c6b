-- What a look-up in a table found, and what a text that is read gives.
use Rattle.std.proofs.Common.{◌≡◌, ℕ, suc, List, [], IsOk, length, Option, Some, None, option_map, Result, Ok, Err, Bor, MatchOption, IfOk, IfErr, ◌⊎◌, inl, inr, sym, refl, subst, arith}
use Rattle.std.proofs.lemmas.Result.{IfErr-at_err}
use Rattle.toml.specs.Data.{Data, Members, no_members}
use Rattle.toml.specs.Errors.{IsBlank}
use Rattle.toml.specs.Parse.{parse_document, skip_bom}
use Rattle.toml.specs.Tables.{no_nodes}
use Rattle.toml.proofs.Turns.{document_some, lines_end}
use Rattle.toml.specs.View.{view}
use Rattle.toml.specs.declared.value.Value.{Value}
use Rattle.node_config.specs.Documents.{IsDocument, IsFaultOf, config_of}
use Rattle.node_config.specs.Folders.{folders_at}
use Rattle.node_config.specs.Paths.{optional_path_at, path_at}
use Rattle.node_config.specs.Peers.{peers_at}
use Rattle.node_config.specs.Values.{Reads, device_at, text_at}
use Rattle.node_config.specs.declared.config.FolderConfig.{FolderConfig}
use Rattle.node_config.specs.declared.key.Key.TheVariants.{Name, State, Status}
use Rattle.node_config.specs.declared.key.TablePlace.TheVariants.{Node}
use Rattle.node_config.specs.declared.config.Config.{Config}
use Rattle.node_config.specs.declared.fault.ConfigFault.{ConfigFault}
use Rattle.node_config.specs.declared.fault.ConfigFault.TheVariants.{NotToml, BadKey, OutOfMemory}
use Rattle.node_config.proofs.KeyFaults.{IsOfKey, config_fails, device_fails}

pub found_member : (r : Option (Bor Value)) (o : Option Data) → option_map (λ x. view x.now) r ≡ o → MatchOption r (o ≡ None) (λ value. o ≡ Some (view value.now))
found_member None o e = sym e
found_member (Some x) o e = sym e

-- what reading a document's configuration fails with is a fault of the text
pub fault_of_document : (text : List ℕ) (document : Members) → IsDocument text document → (r : Result Config ConfigFault) → Reads (config_of document) r → IfErr r (IsFaultOf text)
fault_of_document text document is (Ok config) h = tt
fault_of_document text document is (Err OutOfMemory) h = tt
fault_of_document text document is (Err (BadKey place key problem)) h = elim h [ inl e ↦ cc | inr e ↦ (document, is, e) ]
fault_of_document text document is (Err (NotToml line)) h = elim h [ inl e ↦ cc | inr e ↦ absurd (IfErr-at_err IsOfKey e (config_fails document)) ]

-- a fault of the peers, after all else was read
pub fault_of_peers : (document : Members) (device name state : List ℕ) (status : Option (List ℕ)) (folders lent : List FolderConfig) (fault : ConfigFault) → device_at document Node ≡ Ok device → text_at document Node Name ≡ Ok name → path_at document Node State ≡ Ok state → optional_path_at document Node Status ≡ Ok status → folders_at document ≡ Ok folders → lent ≡ folders
    → (fault ≡ OutOfMemory) ⊎ (peers_at device lent document ≡ Err fault) → (fault ≡ OutOfMemory) ⊎ (config_of document ≡ Err fault)
fault_of_peers document device name state status folders lent fault d n s t f same h =
    elim h [ inl memory ↦ inl memory | inr e ↦ inr (rw (d, n, s, t, f, ← same, e) refl) ]

-- out of memory is no fault of a device
pub no_fault_of_device : (document : Members) → device_at document Node ≡ Err OutOfMemory → ⊥
no_fault_of_device document e = IfErr-at_err IsOfKey e (device_fails document Node)

blank_document : (text : List ℕ) → IsBlank text → parse_document text ≡ Some no_members
blank_document text blank = document_some text (no_nodes, []) (lines_end (suc (length text)) (no_nodes, []) (skip_bom text) (omega arith) blank)

-- a blank text has no device
pub not_blank : (text : List ℕ) (document : Members) → parse_document text ≡ Some document → IsOk (device_at document Node) → ¬ (IsBlank text)
not_blank text document parsed found blank =
    let same : document ≡ no_members = cc (blank_document text blank) in
    let lost : IsOk (device_at no_members Node) = subst (λ (d : Members). IsOk (device_at d Node)) same found in
    cc lost

-- what reading a document gives is its configuration
pub read_config_of : (document : Members) (r : Result Config ConfigFault) → Reads (config_of document) r → IfOk r (λ config. config_of document ≡ Ok config)
read_config_of document (Ok config) h = h
read_config_of document (Err fault) h = tt
