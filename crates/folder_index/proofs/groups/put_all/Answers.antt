use Rattle.std.proofs.Common.{◌≡◌, ◌+◌, ◌<◌, ◌^◌, [], List, length, refl, inl, inr, subst, sym, ap, ◌∙◌, arith}
use Rattle.std.proofs.lemmas.List.{nil_from_length}
use Rattle.sync_record.specs.Records.{FileRecord}
use Rattle.folder_core.specs.Announced.{announce}
use Rattle.folder_core.proofs.ListTests.{In, in_contains}
use Rattle.folder_index.specs.Groups.{announced_in}
use Rattle.folder_index.specs.Indexes.{AreApart}
use Rattle.folder_index.specs.Chunks.{groups_in}
use Rattle.folder_index.proofs.Spared.{apart_first}
use Rattle.folder_index.proofs.groups.put_all.Goals as goal

pub loop-announced-init : goal.loop-announced-init
loop-announced-init c =
    let items : c.into_iter-announced-iterator.result.rest.items ≡ c.args.records.items = c.into_iter-announced-iterator.ensures.into_iter_gives.0 in
    record {
      groups = c.requires.groups;
      placed = ap (λ (rs : List FileRecord). announce c.args.device rs (announced_in (groups_in c.args.names.now))) items;
      promised = refl;
      fits = subst (λ (rs : List FileRecord). c.args.totals.others + length rs + 1 < 2 ^ 64) (sym items) c.requires.fits;
      apart = subst AreApart (sym items) c.requires.apart;
      spares = λ r i. c.requires.spares r (in_contains c.args.records.items r (subst (In r) items i));
    }

pub put_spared-totals-requires-clause-fits : goal.put_spared-totals-requires-clause-fits
put_spared-totals-requires-clause-fits c =
    let len = ap (λ (rs : List FileRecord). length rs) c.in-Some.ensures.steps.0 in
    let fits = c.loop-announced.invariant.fits in
    omega arith

pub put_spared-totals-requires-clause-spare : goal.put_spared-totals-requires-clause-spare
put_spared-totals-requires-clause-spare c = c.loop-announced.invariant.spares c.in-Some.announced (subst (In c.in-Some.announced) (sym c.in-Some.ensures.steps.0) (inl refl))

pub loop-announced-preserved : goal.loop-announced-preserved
loop-announced-preserved c =
    let d = c.args.device in
    let r = c.in-Some.announced in
    let rest = c.next.new.self.rest.items in
    let steps = c.in-Some.ensures.steps.0 in
    let inv = c.loop-announced.invariant in
    let of = c.put_spared-totals.ensures in
    let apart = subst AreApart steps inv.apart in
    let len = ap (λ (rs : List FileRecord). length rs) steps in
    let fits = inv.fits in
    let more = of.one_more in
    record {
      groups = of.groups;
      placed = ap (announce d rest) of.placed ∙ ap (λ (rs : List FileRecord). announce d rs (announced_in (groups_in c.loop-announced.names))) (sym steps) ∙ inv.placed;
      promised = of.promised ∙ inv.promised;
      fits = omega arith;
      apart = apart.1;
      spares = λ x i. of.spares x.name (apart_first rest r.name apart.0 x i) (inv.spares x (subst (In x) (sym steps) (inr i)));
    }

pub returns-clause-groups : goal.returns-clause-groups
returns-clause-groups c = c.loop-announced.invariant.groups

pub returns-clause-placed : goal.returns-clause-placed
returns-clause-placed c =
    let none : c.loop-announced.announced-iterator.rest.items ≡ [] = nil_from_length c.loop-announced.announced-iterator.rest.items (let len = c.loop-announced.announced-iterator.rest.ok.0 in let none = c.in-None.ensures.steps.0 in omega arith) in
    ap (λ (rs : List FileRecord). announce c.args.device rs (announced_in (groups_in c.loop-announced.names))) (sym none) ∙ c.loop-announced.invariant.placed

pub returns-clause-promised : goal.returns-clause-promised
returns-clause-promised c = c.loop-announced.invariant.promised

pub put_spared-totals-requires-clause-groups : goal.put_spared-totals-requires-clause-groups
put_spared-totals-requires-clause-groups c = c.loop-announced.invariant.groups
