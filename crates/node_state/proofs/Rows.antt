-- A folder is readable exactly where its front, its entries and its peers are.
use Rattle.std.proofs.Common.{◌≡◌, ℕ, true, false, Bool, List, [], ◌∷◌, ◌++◌, ◌==◌, Option, None, refl, if◌then◌else◌}
use Rattle.std.specs.Prelude.{cond}
use Rattle.std.specs.List.{AllByRecursion}
use Rattle.bep_wire.specs.Content.{Number, Eight, Bytes, Four, Item}
use Rattle.bep_wire.specs.Fields.{fields}
use Rattle.bep_messages.specs.declared.fault.MessageFault.{MessageFault}
use Rattle.bep_messages.specs.Contents.{byte_lists, bytes_in, contents}
use Rattle.bep_messages.specs.Faults.{bytes_fault, first_fault, item_fault, message_fault, or_else, scalar_fault}
use Rattle.bep_messages.specs.Tables.{Table, End, One, Messages, Int64, Uint64, Words}
use Rattle.bep_messages.proofs.Absent.{AreFine, fine_after, no_first, none_then}
use Rattle.bep_messages.proofs.Joins.{AreReadable, held_readable, readable, unreadable}
use Rattle.node_state.specs.declared.edition.Edition.{Edition}
use Rattle.node_state.specs.declared.edition.Edition.TheVariants.{First, Second}
use Rattle.node_state.specs.Meaning.{body_fault}
use Rattle.node_state.specs.Reading.{held, peers_held, front_table, folder_fault}
use Rattle.node_state.specs.Tables.{entry_table, peer_table, folder_table, state_table, first_folder_table, first_state_table}

-- ---- one list in a message

abbrev row : ℕ → Table → Item → Option MessageFault
row n inner i = if n == i.number then bytes_fault (message_fault inner) i.content else None

held_row : (n : ℕ) (inner : Table) (items : List Item) → AreReadable inner (byte_lists (contents n items)) → AreFine (row n inner) items
held_row n inner [] all = refl
held_row n inner (i ∷ items) all =
    elim (n == i.number) as (λ b. AreReadable inner (byte_lists (cond b (i.content ∷ contents n items) (contents n items)))
    → or_else (cond b (bytes_fault (message_fault inner) i.content) None) (first_fault (row n inner) items None) ≡ None) [
      | true ↦ elim i.content as (λ c. AreReadable inner (bytes_in c ++ byte_lists (contents n items)) → or_else (bytes_fault (message_fault inner) c) (first_fault (row n inner) items None) ≡ None) [
        | Number m ↦ λ h. held_row n inner items h
        | Eight bytes ↦ λ h. held_row n inner items h
        | Bytes bytes ↦ λ h. none_then _ _ h.0 (held_row n inner items h.1)
        | Four bytes ↦ λ h. held_row n inner items h
      ]
      | false ↦ λ h. held_row n inner items h
    ] all

-- what follows for each field follows for all
module _ (f g : Item → Option MessageFault) (h : (i : Item) → f i ≡ None → g i ≡ None) where
  fine-mono : (items : List Item) → AreFine f items → AreFine g items
  fine-mono [] e = refl
  fine-mono (i ∷ items) e = let p = no_first (f i) (first_fault f items None) e in none_then _ _ (h i p.0) (fine-mono items p.1)

module _ (f g k : Item → Option MessageFault) (h : (i : Item) → f i ≡ None → g i ≡ None → k i ≡ None) where
  fine-both : (items : List Item) → AreFine f items → AreFine g items → AreFine k items
  fine-both [] d e = refl
  fine-both (i ∷ items) d e =
      let p = no_first (f i) (first_fault f items None) d in
      let q = no_first (g i) (first_fault g items None) e in
      none_then _ _ (h i p.0 q.0) (fine-both items p.1 q.1)

-- ---- a folder

pub record Pieces (edition : Edition) (bytes : List ℕ) : Type 0 where
  pub front : message_fault front_table bytes ≡ None
  pub entries : AreReadable entry_table (held 4 bytes)
  pub peers : AreReadable peer_table (peers_held edition bytes)

-- the faults of a folder's field, by its number
abbrev by_number : Bool → Bool → Bool → Option MessageFault → Option MessageFault → Option MessageFault
by_number one two three text rest = cond one text (cond two None (cond three None rest))

without : (one two three : Bool) (text rest : Option MessageFault) → by_number one two three text rest ≡ None → by_number one two three text None ≡ None
without true two three text rest e = e
without false true three text rest e = refl
without false false true text rest e = refl
without false false false text rest e = refl

with : (one two three : Bool) (text rest : Option MessageFault) → by_number one two three text None ≡ None → rest ≡ None → by_number one two three text rest ≡ None
with true two three text rest e f = e
with false true three text rest e f = refl
with false false true text rest e f = refl
with false false false text rest e f = f

fourth : (four : Bool) (entry rest : Option MessageFault) → cond four entry None ≡ None → rest ≡ None → cond four entry rest ≡ None
fourth true entry rest e f = e
fourth false entry rest e f = f

abbrev text_of : Item → Option MessageFault
text_of i = scalar_fault Words i.content

to_front_first : (i : Item) → item_fault first_folder_table i ≡ None → item_fault front_table i ≡ None
to_front_first i = without (1 == i.number) (2 == i.number) (3 == i.number) (text_of i) (row 4 entry_table i)

to_front_second : (i : Item) → item_fault folder_table i ≡ None → item_fault front_table i ≡ None
to_front_second i = without (1 == i.number) (2 == i.number) (3 == i.number) (text_of i) (item_fault (Messages 4 entry_table (Messages 5 peer_table End)) i)

of_front_first : (i : Item) → item_fault front_table i ≡ None → row 4 entry_table i ≡ None → item_fault first_folder_table i ≡ None
of_front_first i = with (1 == i.number) (2 == i.number) (3 == i.number) (text_of i) (row 4 entry_table i)

of_front_second : (i : Item) → item_fault first_folder_table i ≡ None → row 5 peer_table i ≡ None → item_fault folder_table i ≡ None
of_front_second i =
    elim (1 == i.number) as (λ one. by_number one (2 == i.number) (3 == i.number) (text_of i) (row 4 entry_table i) ≡ None → row 5 peer_table i ≡ None
    → by_number one (2 == i.number) (3 == i.number) (text_of i) (item_fault (Messages 4 entry_table (Messages 5 peer_table End)) i) ≡ None) [
      | true ↦ λ e f. e
      | false ↦ elim (2 == i.number) as (λ two. by_number false two (3 == i.number) (text_of i) (row 4 entry_table i) ≡ None → row 5 peer_table i ≡ None
          → by_number false two (3 == i.number) (text_of i) (item_fault (Messages 4 entry_table (Messages 5 peer_table End)) i) ≡ None) [
            | true ↦ λ e f. refl
            | false ↦ elim (3 == i.number) as (λ three. by_number false false three (text_of i) (row 4 entry_table i) ≡ None → row 5 peer_table i ≡ None
                → by_number false false three (text_of i) (item_fault (Messages 4 entry_table (Messages 5 peer_table End)) i) ≡ None) [
                  | true ↦ λ e f. refl
                  | false ↦ λ e f. fourth (4 == i.number) (bytes_fault (message_fault entry_table) i.content) (row 5 peer_table i) e f
                ]
          ]
    ]

pub pieces : (edition : Edition) (bytes : List ℕ) → folder_fault edition bytes ≡ None → Pieces edition bytes
pieces First bytes e =
    let p = readable first_folder_table bytes e in
    let items = (fields bytes).items in
    record {
      front = unreadable front_table bytes p.0 (fine-mono (item_fault first_folder_table) (item_fault front_table) to_front_first items p.1);
      entries = held_readable 4 entry_table End items
          (fine_after (λ i. scalar_fault Int64 i.content) 3 (Messages 4 entry_table End) items refl
          (fine_after (λ i. scalar_fault Uint64 i.content) 2 (One 3 Int64 (Messages 4 entry_table End)) items refl
          (fine_after (λ i. scalar_fault Words i.content) 1 (One 2 Uint64 (One 3 Int64 (Messages 4 entry_table End))) items refl p.1)));
      peers = tt;
    }
pieces Second bytes e =
    let p = readable folder_table bytes e in
    let items = (fields bytes).items in
    let lists = fine_after (λ i. scalar_fault Int64 i.content) 3 (Messages 4 entry_table (Messages 5 peer_table End)) items refl
    (fine_after (λ i. scalar_fault Uint64 i.content) 2 (One 3 Int64 (Messages 4 entry_table (Messages 5 peer_table End))) items refl
    (fine_after (λ i. scalar_fault Words i.content) 1 (One 2 Uint64 (One 3 Int64 (Messages 4 entry_table (Messages 5 peer_table End)))) items refl p.1)) in
    record {
      front = unreadable front_table bytes p.0 (fine-mono (item_fault folder_table) (item_fault front_table) to_front_second items p.1);
      entries = held_readable 4 entry_table (Messages 5 peer_table End) items lists;
      peers = held_readable 5 peer_table End items (fine_after (λ i. bytes_fault (message_fault entry_table) i.content) 4 (Messages 5 peer_table End) items refl lists);
    }

first_whole : (bytes : List ℕ) → message_fault front_table bytes ≡ None → AreReadable entry_table (held 4 bytes) → AreFine (item_fault first_folder_table) (fields bytes).items
first_whole bytes front entries =
    fine-both (item_fault front_table) (row 4 entry_table) (item_fault first_folder_table) of_front_first (fields bytes).items
    (readable front_table bytes front).1 (held_row 4 entry_table (fields bytes).items entries)

pub whole : (edition : Edition) (bytes : List ℕ) → Pieces edition bytes → folder_fault edition bytes ≡ None
whole First bytes p = unreadable first_folder_table bytes (readable front_table bytes p.front).0 (first_whole bytes p.front p.entries)
whole Second bytes p =
    unreadable folder_table bytes (readable front_table bytes p.front).0
    (fine-both (item_fault first_folder_table) (row 5 peer_table) (item_fault folder_table) of_front_second (fields bytes).items
    (first_whole bytes p.front p.entries) (held_row 5 peer_table (fields bytes).items p.peers))

-- ---- a state

pub folders-readable : (edition : Edition) (body : List ℕ) → body_fault edition body ≡ None → ((fields body).fault ≡ None) × AllByRecursion (λ b. folder_fault edition b ≡ None) (held 1 body)
folders-readable First body e =
    let p = readable first_state_table body e in
    (p.0, held_readable 1 first_folder_table End (fields body).items p.1)
folders-readable Second body e =
    let p = readable state_table body e in
    (p.0, held_readable 1 folder_table End (fields body).items p.1)

pub body-readable : (edition : Edition) (body : List ℕ) → (fields body).fault ≡ None → AllByRecursion (λ b. folder_fault edition b ≡ None) (held 1 body) → body_fault edition body ≡ None
body-readable First body none all = unreadable first_state_table body none (held_row 1 first_folder_table (fields body).items all)
body-readable Second body none all = unreadable state_table body none (held_row 1 folder_table (fields body).items all)
