-- What is at each name (own rule).
use Rattle.std.specs.Prelude.{bytes_eq, if◌then◌else◌, Option}
use Rattle.std.specs.BTreeMap.{get_by_text}
use Rattle.file_store.specs.declared.name_map.NameMap.{NameMap}
use Rattle.file_store.specs.Names.{Name}

-- the same but for one name
abbrev pub put_at : {X : Type 0} → Name → Option X → (Name → Option X) → Name → Option X
put_at n x f q = if bytes_eq n q then x else f q

-- what a map has at each name
abbrev pub found_at : {V : Type 0} → NameMap V → Name → Option V
found_at m q = get_by_text m.map q
