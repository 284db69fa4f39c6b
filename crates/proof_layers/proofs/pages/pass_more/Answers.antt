use Rattle.std.proofs.Common.{◌≡◌, ap, map, subst, sym, ◌∙◌}
use Rattle.std.specs.Prelude.{All, None}
use Rattle.std.proofs.lemmas.Result.{IfOk-weaker}
use Rattle.bep_messages.specs.declared.index_update.IndexUpdate.{IndexUpdate}
use Rattle.bep_session.specs.declared.event.Event.TheVariants.{More}
use Rattle.sync_names.specs.Refusal.{refusal}
use Rattle.sync_record.specs.Infos.{record_of}
use Rattle.proof_layers.proofs.HeardLemmas.{OnOk-holds, more-inside, update-heard, last-one}
use Rattle.proof_layers.proofs.pages.pass_more.Goals as goal

pub returns-in-Some-More-clause-heard : goal.returns-in-Some-More-clause-heard
returns-in-Some-More-clause-heard c =
    let made = c.in_ok-message.ensures in
    let heard = update-heard c.args.to.now c.pass.new.to c.args.moment c.in_ok-events.events.items c.requires c.in_ok-message.message made.0 made.1 c.in_ok-events.ensures.heard in
    let last = last-one c.pop.new.self.items c.in-Some-More.field-0 (More made.0) (sym heard.0 ∙ c.in-Some-More.ensures.items) in
    let same = more-inside c.in-Some-More.update made.0 (sym c.in-Some-More.field-0-is ∙ last) in
    IfOk-weaker c.records_of.result _ _ (λ records e. e ∙ (ap (λ (x : IndexUpdate). map record_of x.files) same ∙ made.2)) c.records_of.ensures

pub returns-in-Some-More-clause-between : goal.returns-in-Some-More-clause-between
returns-in-Some-More-clause-between c =
    let made = c.in_ok-message.ensures in
    let heard = update-heard c.args.to.now c.pass.new.to c.args.moment c.in_ok-events.events.items c.requires c.in_ok-message.message made.0 made.1 c.in_ok-events.ensures.heard in
    OnOk-holds c.records_of.result heard.1

pub records_of-requires : goal.records_of-requires
records_of-requires c =
    let made = c.in_ok-message.ensures in
    let heard = update-heard c.args.to.now c.pass.new.to c.args.moment c.in_ok-events.events.items c.requires c.in_ok-message.message made.0 made.1 c.in_ok-events.ensures.heard in
    let last = last-one c.pop.new.self.items c.in-Some-More.field-0 (More made.0) (sym heard.0 ∙ c.in-Some-More.ensures.items) in
    let same = more-inside c.in-Some-More.update made.0 (sym c.in-Some-More.field-0-is ∙ last) in
    subst (λ (x : IndexUpdate). All (λ info. refusal info.name ≡ None) x.files) (sym same) made.3
