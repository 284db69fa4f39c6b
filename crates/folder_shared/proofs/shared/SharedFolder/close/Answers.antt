use Rattle.std.proofs.Common.{◌≡◌, ap, ◌∙◌, sym, [], ◌∷◌, ◌++◌, length, arith, append-nil, rules}
use Rattle.crossbeam_channel.specs.Claims.{view}
use Rattle.folder_shared.specs.declared.known.Known.{Known}
use Rattle.folder_shared.specs.Passes.{IsPassOf}
use Rattle.folder_shared.proofs.Joins.{joins}
use Rattle.folder_shared.proofs.Closing.{claims_back, closes, closes-given, at_back, back_more, back_all}
use Rattle.folder_shared.proofs.shared.SharedFolder.close.Goals as goal

pub loop-pass-init : goal.loop-pass-init
loop-pass-init g c =
    let all : c.args.passes.items ≡ c.args.passes.items ++ [] = sym (append-nil c.args.passes.items) in
    let p : IsPassOf c.args.self.locked c.in-Some.last = c.requires.passes (length c.pop.new.self.items) c.in-Some.last (at_back c.args.passes.items c.args.passes.items c.pop.new.self.items [] c.in-Some.last all c.in-Some.ensures.items) in record {
      seat = p.seat;
      idle = p.idle;
      memo = p.same;
      joined = (c.in-Some.last ∷ [], c.in-Some.ensures.items, p.histories);
    }

pub absorb-requires-clause-channel : goal.absorb-requires-clause-channel
absorb-requires-clause-channel g c = let j = c.loop-pass.invariant.joined in
    let p : IsPassOf c.args.self.locked c.in-Some-pop.pass = c.requires.passes (length c.pop-in-loop-pass.new.self.items) c.in-Some-pop.pass (at_back c.args.passes.items c.loop-pass.passes.items c.pop-in-loop-pass.new.self.items j.0 c.in-Some-pop.pass j.1 c.in-Some-pop.ensures.items) in (c.loop-pass.invariant.seat, p.seat)

pub absorb-requires-clause-rule : goal.absorb-requires-clause-rule
absorb-requires-clause-rule g c = let j = c.loop-pass.invariant.joined in
    let p : IsPassOf c.args.self.locked c.in-Some-pop.pass = c.requires.passes (length c.pop-in-loop-pass.new.self.items) c.in-Some-pop.pass (at_back c.args.passes.items c.loop-pass.passes.items c.pop-in-loop-pass.new.self.items j.0 c.in-Some-pop.pass j.1 c.in-Some-pop.ensures.items) in
    joins _ _ _ _ c.loop-pass.invariant.idle p.idle

pub loop-pass-preserved : goal.loop-pass-preserved
loop-pass-preserved g c = let i = c.loop-pass.invariant in let j = i.joined in
    let p : IsPassOf c.args.self.locked c.in-Some-pop.pass = c.requires.passes (length c.pop-in-loop-pass.new.self.items) c.in-Some-pop.pass (at_back c.args.passes.items c.loop-pass.passes.items c.pop-in-loop-pass.new.self.items j.0 c.in-Some-pop.pass j.1 c.in-Some-pop.ensures.items) in record {
      seat = c.absorb.ensures.channel.0;
      idle = ap (λ (v : Known). v.state) c.absorb.ensures.rule;
      memo = (ap (λ (v : Known). v.memo.opening) c.absorb.ensures.rule ∙ i.memo.0, ap (λ (v : Known). v.memo.limit) c.absorb.ensures.rule ∙ i.memo.1);
      joined = (c.in-Some-pop.pass ∷ j.0, back_more c.args.passes.items c.loop-pass.passes.items c.pop-in-loop-pass.new.self.items j.0 c.in-Some-pop.pass j.1 c.in-Some-pop.ensures.items, ap (λ (v : Known). v.histories) c.absorb.ensures.rule ∙ (λ k. j.2 k ++ p.histories k));
    }

pub returns-clause-closes : goal.returns-clause-closes
returns-clause-closes g c = let i = c.loop-pass.invariant in let j = i.joined in let t = c.take-recorded.ensures.taken in
    let all : j.0 ≡ c.args.passes.items = back_all c.args.passes.items c.loop-pass.passes.items j.0 j.1 (let k = c.in_default-pop.ensures.cases in let o = c.loop-pass.passes.ok in omega arith) in
    closes c.args.self.locked c.take-recorded.result (view c.loop-pass.keeper) _ c.args.passes.items t (j.2 ∙ ap claims_back all) (t.same.0 ∙ i.memo.0, t.same.1 ∙ i.memo.1) c.into_core-core.ensures.history c.requires.some c.requires.passes _ c.into_core-core.ensures.core _ c.passes-count.ensures

pub returns-clause-given : goal.returns-clause-given
returns-clause-given g c = let i = c.loop-pass.invariant in let j = i.joined in let t = c.take-recorded.ensures.taken in
    let all : j.0 ≡ c.args.passes.items = back_all c.args.passes.items c.loop-pass.passes.items j.0 j.1 (let k = c.in_default-pop.ensures.cases in let o = c.loop-pass.passes.ok in omega arith) in
    closes-given c.take-recorded.result (view c.loop-pass.keeper) _ c.args.passes.items t (j.2 ∙ ap claims_back all) _ c.passes-count.ensures

pub returns-clause-count : goal.returns-clause-count
returns-clause-count g c = let i = c.loop-pass.invariant in let t = c.take-recorded.ensures.taken in record {
  seat = search (c.take-recorded.ensures.seat, rules);
  holds = ap (λ (v : Known). v.state) t.after;
  same = (ap (λ (v : Known). v.memo.opening) t.after ∙ t.same.0 ∙ i.memo.0, ap (λ (v : Known). v.memo.limit) t.after ∙ t.same.1 ∙ i.memo.1);
  count = ap (λ (v : Known). v.memo.passes) t.after ∙ sym c.passes-count.ensures;
}
