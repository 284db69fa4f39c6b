use Rattle.std.proofs.Common.{◌≡◌, ap, map, subst, sym, ◌∙◌}
use Rattle.std.specs.Prelude.{All, None}
use Rattle.std.proofs.lemmas.Result.{IfOk-weaker}
use Rattle.bep_messages.specs.declared.index.Index.{Index}
use Rattle.bep_session.specs.declared.event.Event.TheVariants.{Full}
use Rattle.sync_names.specs.Refusal.{refusal}
use Rattle.sync_record.specs.Infos.{record_of}
use Rattle.proof_layers.proofs.HeardLemmas.{OnOk-holds, full-inside, index-heard, last-one}
use Rattle.proof_layers.proofs.pages.pass_full.Goals as goal

pub returns-in-Some-Full-clause-heard : goal.returns-in-Some-Full-clause-heard
returns-in-Some-Full-clause-heard c =
    let made = c.in_ok-message.ensures in
    let heard = index-heard c.args.to.now c.pass.new.to c.args.moment c.in_ok-events.events.items c.requires c.in_ok-message.message made.0 made.1 c.in_ok-events.ensures.heard in
    let last = last-one c.pop.new.self.items c.in-Some-Full.field-0 (Full made.0) (sym heard.0 ∙ c.in-Some-Full.ensures.items) in
    let same = full-inside c.in-Some-Full.index made.0 (sym c.in-Some-Full.field-0-is ∙ last) in
    IfOk-weaker c.records_of.result _ _ (λ records e. e ∙ (ap (λ (x : Index). map record_of x.files) same ∙ made.2)) c.records_of.ensures

pub returns-in-Some-Full-clause-between : goal.returns-in-Some-Full-clause-between
returns-in-Some-Full-clause-between c =
    let made = c.in_ok-message.ensures in
    let heard = index-heard c.args.to.now c.pass.new.to c.args.moment c.in_ok-events.events.items c.requires c.in_ok-message.message made.0 made.1 c.in_ok-events.ensures.heard in
    OnOk-holds c.records_of.result heard.1

pub records_of-requires : goal.records_of-requires
records_of-requires c =
    let made = c.in_ok-message.ensures in
    let heard = index-heard c.args.to.now c.pass.new.to c.args.moment c.in_ok-events.events.items c.requires c.in_ok-message.message made.0 made.1 c.in_ok-events.ensures.heard in
    let last = last-one c.pop.new.self.items c.in-Some-Full.field-0 (Full made.0) (sym heard.0 ∙ c.in-Some-Full.ensures.items) in
    let same = full-inside c.in-Some-Full.index made.0 (sym c.in-Some-Full.field-0-is ∙ last) in
    subst (λ (x : Index). All (λ info. refusal info.name ≡ None) x.files) (sym same) made.3
