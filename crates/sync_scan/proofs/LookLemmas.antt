-- Calls of a store that are looks alone.
use Rattle.std.proofs.Common.{Result}
use Rattle.file_store.specs.Asked.{ListAll, StatAt}
use Rattle.file_store.specs.Names.{Name}
use Rattle.file_store.specs.Sequences.{IsLook, LooksOnly, not_called}
use Rattle.file_store.specs.declared.node.Listing.{Listing}
use Rattle.file_store.specs.declared.node.Stat.{Stat}
use Rattle.file_store.specs.declared.refusal.StoreRefusal.{StoreRefusal}
use Rattle.file_store.proofs.SequenceLemmas.{called_on, called_once}
use Rattle.sync_scan.specs.Told.{Giving}

pub no_look : {S : Type 0} (gives : Giving S) (s : S) → LooksOnly gives s s
no_look gives s = not_called

pub stat_look : {S : Type 0} (gives : Giving S) (old new : S) (n : Name) (answer : Result Stat StoreRefusal) → gives old (StatAt n) answer new → LooksOnly gives old new
stat_look gives old new n answer given = called_once gives IsLook old new (StatAt n) answer tt given

pub looks_then : {S : Type 0} (gives : Giving S) (a b c : S) → LooksOnly gives a b → LooksOnly gives b c → LooksOnly gives a c
looks_then gives a b c first second = called_on gives IsLook a b c first second

-- after a look at a name
pub stat_then : {S : Type 0} (gives : Giving S) (a b c : S) (n : Name) (answer : Result Stat StoreRefusal) → gives a (StatAt n) answer b → LooksOnly gives b c → LooksOnly gives a c
stat_then gives a b c n answer given second = called_on gives IsLook a b c (stat_look gives a b n answer given) second

-- and since an earlier moment
pub stat_since : {S : Type 0} (gives : Giving S) (first a b : S) (n : Name) (answer : Result Stat StoreRefusal) → LooksOnly gives first a → gives a (StatAt n) answer b → LooksOnly gives first b
stat_since gives first a b n answer looks given = called_on gives IsLook first a b looks (stat_look gives a b n answer given)

pub looks_after : {S : Type 0} (gives : Giving S) (a b c : S) → LooksOnly gives b c → LooksOnly gives a b → LooksOnly gives a c
looks_after gives a b c second first = called_on gives IsLook a b c first second

pub list_look : {S : Type 0} (gives : Giving S) (old new : S) (answer : Result Listing StoreRefusal) → gives old ListAll answer new → LooksOnly gives old new
list_look gives old new answer given = called_once gives IsLook old new ListAll answer tt given
