use Rattle.std.proofs.Common.{subst, sym, ◌∙◌, false, true}
use Rattle.bep_frames.specs.Grammar.{IsFrame}
use Rattle.bep_frames.specs.declared.frame.Frame.TheVariants.{Hello as HelloFrame, Message as MessageFrame}
use Rattle.bep_frames.specs.declared.frame.Message.TheVariants.{ClusterConfig as ConfigMessage}
use Rattle.bep_frames.specs.Written.{message_frame}
use Rattle.proof_layers.proofs.HeardLemmas.{greeted}
use Rattle.proof_layers.proofs.saying.greet.Goals as goal

pub returns-clause-between : goal.returns-clause-between
returns-clause-between c nothing =
    let hello = c.in_ok-hello.ensures in
    let config = c.in_ok-config.ensures in
    let said = c.in_ok-frame.ensures in
    greeted c.args.to.now c.hear.new.session c.hear-2.new.session c.deref.result.now c.deref-2.result.now hello.0 config.0 c.args.moment
    c.in_ok-hear.field-0.items c.in_ok-hear-2.field-0.items nothing
    (subst (λ bytes. IsFrame true bytes (HelloFrame hello.0)) (sym c.deref.ensures.value) hello.1)
    (subst (λ bytes. IsFrame false bytes (MessageFrame (ConfigMessage config.0))) (sym (c.deref-2.ensures.value ∙ said.frame))
    (subst (λ m. IsFrame false (message_frame c.in_ok-config.config) (MessageFrame m)) config.1 said.again))
    c.in_ok-hear.ensures c.in_ok-hear-2.ensures
