use Rattle.std.proofs.Common.{refl}
use Rattle.file_store.proofs.SequenceLemmas.{called_on}
use Rattle.std.proofs.Common.{◌∙◌, ◌+◌, ◌++◌, ◌∷◌, [], ℕ, List, ap, arith, get_or, rules, subst, sym, take}
use Rattle.sync_blocks.specs.declared.block.Block.{Block}
use Rattle.sync_pull.specs.Fetching.{AreFound, Finds, IsFound}
use Rattle.sync_pull.proofs.ChainLemmas.{sees-itself, sees-together}
use Rattle.sync_pull.proofs.SourceLemmas.{found-as, found-next, found-on}
use Rattle.file_store.specs.Sequences.{not_called}
use Rattle.sync_pull.proofs.fetch.gather.Goals as goal

abbrev none : Block
none = record { offset = 0; size = 0; hash = [] }

pub loop-i-preserved : goal.loop-i-preserved
loop-i-preserved g c =
    let inv = c.loop-i.invariant in
    let test = c.loop-i-test.true in
    let gives = g.B.BlockSource.gives in
    let me = c.args.fetch.now.me in
    let n = c.args.fetch.now.name.now in
    let ds = c.args.fetch.now.devices.now in
    let bs = c.args.blocks.now in
    let i = c.loop-i.i in
    let piece = c.find_bytes.new.bytes.items in
    let then : Block → List ℕ → ℕ → Type 0 = IsFound gives me n ds c.find_bytes.new.source in
    let here = subst (Finds gives me n ds c.find_bytes.new.source (get_or bs i none) piece) c.in-Some.is c.in_ok-asked.ensures.finds in
    let found : AreFound then (take (i + 1) bs) (c.loop-i.group.bytes.items ++ piece) (c.loop-i.group.asked.items ++ c.in-Some.asked ∷ []) =
    found-next then bs i none c.loop-i.group.bytes.items piece c.loop-i.group.asked.items c.in-Some.asked (omega arith) inv.each
    (found-as _ then (found-on gives n me ds c.loop-i.source c.find_bytes.new.source c.in_ok-asked.ensures.asks) (take i bs) c.loop-i.group.bytes.items c.loop-i.group.asked.items inv.found) here.0 here.1 in
    record {
      each = search rules;
      within = omega arith;
      found = subst (λ l. AreFound then (take (i + 1) bs) l c.extend_from_slice-in-loop-i.new.self.items)
          (sym (c.in_ok-extend_from_slice.ensures.items ∙ ap (λ l. c.loop-i.group.bytes.items ++ l) c.as_slice.ensures.value))
          (subst (λ l. AreFound then (take (i + 1) bs) (c.loop-i.group.bytes.items ++ piece) l) (sym c.in_ok-extend_from_slice-2.ensures.items) found);
      folder = c.find_bytes.ensures.folder ∙ inv.folder;
      sees = sees-together _ _ _ inv.sees c.find_bytes.ensures.sees;
      counted = search rules;
      kept = λ keeps. c.find_bytes.ensures.kept keeps ∙ inv.kept keeps;
      looks = called_on _ _ _ _ _ inv.looks c.find_bytes.ensures.looks;
    }

pub returns-in_err-asked-clause-looks : goal.returns-in_err-asked-clause-looks
returns-in_err-asked-clause-looks g c = called_on _ _ _ _ _ c.loop-i.invariant.looks c.find_bytes.ensures.looks

pub returns-in_default-clause-looks : goal.returns-in_default-clause-looks
returns-in_default-clause-looks g c = called_on _ _ _ _ _ c.loop-i.invariant.looks c.find_bytes.ensures.looks

pub returns-in_err-extend_from_slice-clause-looks : goal.returns-in_err-extend_from_slice-clause-looks
returns-in_err-extend_from_slice-clause-looks g c = called_on _ _ _ _ _ c.loop-i.invariant.looks c.find_bytes.ensures.looks

pub returns-in_err-extend_from_slice-2-clause-looks : goal.returns-in_err-extend_from_slice-2-clause-looks
returns-in_err-extend_from_slice-2-clause-looks g c = called_on _ _ _ _ _ c.loop-i.invariant.looks c.find_bytes.ensures.looks

pub loop-i-init : goal.loop-i-init
loop-i-init g c = record {
  each = search rules;
  within = omega arith;
  found = search rules;
  folder = refl;
  sees = sees-itself _;
  counted = refl;
  kept = λ keeps. refl;
  looks = not_called;
}
