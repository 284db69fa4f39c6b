use Rattle.std.proofs.Common.{Global, rules, ◌≡◌, [], ◌∷◌, ◌++◌, true, false, string_bytes, refl, sym, subst}
use Rattle.std.specs.Prelude.{is_none}
use Rattle.std.specs.List.Sorted.{IsStrictlySortedBy}
use Rattle.std.specs.Map.{keys_of}
use Rattle.std.specs.String.{string_cmp}
use Rattle.std.specs.declared.string.String.{String}
use Rattle.file_store.specs.declared.node.Listed.{Listed}
use Rattle.file_store.specs.declared.node.Node.{Node}
use Rattle.sync_names.specs.Refusal.{refusal}
use Rattle.file_store.specs.Maps.{found_at}
use Rattle.file_store.proofs.ListingLemmas.{IsListed, if_err, listing_adds, listing_begins, listing_ends, listing_has, listing_skips}
use Rattle.file_store.proofs.name_map.NameMap+Node.list.Goals as goal

pub loop-text-init : goal.loop-text-init
loop-text-init c =
    let all : c.into_iter-text-iterator.result ≡ c.args.self.now.map.entries = search rules in
    let none : c.new-entries.result.items ≡ [] = search rules in
    let order : IsStrictlySortedBy string_cmp (keys_of c.args.self.now.map.entries) = search rules in
    subst (λ es. IsListed (found_at c.args.self.now) es c.new-entries.result.items) (sym all)
    (subst (IsListed (found_at c.args.self.now) c.args.self.now.map.entries) (sym none)
    (listing_begins (found_at c.args.self.now) c.args.self.now.map.entries (λ q. refl) order))

pub loop-text-preserved-in-Continue-branch-3 : goal.loop-text-preserved-in-Continue-branch-3
loop-text-preserved-in-Continue-branch-3 c =
    let e : String Global × Node = (c.in-Some.text.now, c.in-Some.node.now) in
    let is : c.loop-text.text-iterator ≡ e ∷ c.next.new.self = search rules in
    let l : Listed = record { name = c.in-Some-2.name; kind = c.kind_of.result } in
    let pushed : c.push.new.self.items ≡ c.loop-text.entries.items ++ l ∷ [] = search rules in
    let name : l.name ≡ string_bytes c.in-Some.text.now = search rules in
    let safe : is_none (refusal (string_bytes c.in-Some.text.now)) ≡ true = search rules in
    subst (IsListed (found_at c.args.self.now) c.next.new.self) (sym pushed)
    (listing_adds (found_at c.args.self.now) e c.next.new.self c.loop-text.text-iterator is c.loop-text.entries.items c.loop-text.invariant l name c.kind_of.ensures safe)

pub loop-text-preserved : goal.loop-text-preserved
loop-text-preserved c =
    let e : String Global × Node = (c.in-Some.text.now, c.in-Some.node.now) in
    let is : c.loop-text.text-iterator ≡ e ∷ c.next.new.self = search rules in
    let unsafe : is_none (refusal (string_bytes c.in-Some.text.now)) ≡ false = search rules in
    listing_skips (found_at c.args.self.now) e c.next.new.self c.loop-text.text-iterator is c.loop-text.entries.items c.loop-text.invariant unsafe

pub returns-in_err-name-clause-failed : goal.returns-in_err-name-clause-failed
returns-in_err-name-clause-failed c =
    let e : String Global × Node = (c.in-Some.text.now, c.in-Some.node.now) in
    let is : c.loop-text.text-iterator ≡ e ∷ c.next.new.self = search rules in
    if_err c.from_residual.result (string_bytes e.0, listing_has (found_at c.args.self.now) e c.next.new.self c.loop-text.text-iterator is c.loop-text.entries.items c.loop-text.invariant)

pub returns-in_err-push-clause-failed : goal.returns-in_err-push-clause-failed
returns-in_err-push-clause-failed c =
    let e : String Global × Node = (c.in-Some.text.now, c.in-Some.node.now) in
    let is : c.loop-text.text-iterator ≡ e ∷ c.next.new.self = search rules in
    if_err c.from_residual-in_err-push.result (string_bytes e.0, listing_has (found_at c.args.self.now) e c.next.new.self c.loop-text.text-iterator is c.loop-text.entries.items c.loop-text.invariant)

pub returns-clause-listing : goal.returns-clause-listing
returns-clause-listing c =
    let ends : c.loop-text.text-iterator ≡ [] = search rules in
    let none : c.new.result.items ≡ [] = search rules in
    listing_ends (found_at c.args.self.now) c.loop-text.text-iterator (record { entries = c.loop-text.entries; unread = c.new.result }) ends none c.loop-text.invariant
