use Rattle.bep_messages.proofs.Written.{adds_none, ◌then◌, lacks_here, ◌until◌, on_err}
use Rattle.bep_messages.proofs.device.DeviceProtoMessage.write.Goals as goal

pub returns-clause-ok : goal.returns-clause-ok
returns-clause-ok c = c.in_ok-octets.ensures.ok then c.in_ok-words.ensures.ok then c.in_ok-texts.ensures.ok then c.in_ok-enumeration.ensures.ok then c.in_ok-words-2.ensures.ok then c.in_ok-int64.ensures.ok then c.in_ok-boolean.ensures.ok then c.in_ok-uint64.ensures.ok then c.in_ok-boolean-2.ensures.ok then adds_none _

pub returns-in_err-octets-clause-err : goal.returns-in_err-octets-clause-err
returns-in_err-octets-clause-err c = on_err _ (lacks_here _ c.in_err-octets.ensures.err)

pub returns-in_err-words-clause-err : goal.returns-in_err-words-clause-err
returns-in_err-words-clause-err c = on_err _ (c.in_ok-octets.ensures.ok until lacks_here _ c.in_err-words.ensures.err)

pub returns-in_err-texts-clause-err : goal.returns-in_err-texts-clause-err
returns-in_err-texts-clause-err c = on_err _ (c.in_ok-octets.ensures.ok until c.in_ok-words.ensures.ok until lacks_here _ c.in_err-texts.ensures.err)

pub returns-in_err-enumeration-clause-err : goal.returns-in_err-enumeration-clause-err
returns-in_err-enumeration-clause-err c = on_err _ (c.in_ok-octets.ensures.ok until c.in_ok-words.ensures.ok until c.in_ok-texts.ensures.ok until lacks_here _ c.in_err-enumeration.ensures.err)

pub returns-in_err-words-2-clause-err : goal.returns-in_err-words-2-clause-err
returns-in_err-words-2-clause-err c = on_err _ (c.in_ok-octets.ensures.ok until c.in_ok-words.ensures.ok until c.in_ok-texts.ensures.ok until c.in_ok-enumeration.ensures.ok until lacks_here _ c.in_err-words-2.ensures.err)

pub returns-in_err-int64-clause-err : goal.returns-in_err-int64-clause-err
returns-in_err-int64-clause-err c = on_err _ (c.in_ok-octets.ensures.ok until c.in_ok-words.ensures.ok until c.in_ok-texts.ensures.ok until c.in_ok-enumeration.ensures.ok until c.in_ok-words-2.ensures.ok until lacks_here _ c.in_err-int64.ensures.err)

pub returns-in_err-boolean-clause-err : goal.returns-in_err-boolean-clause-err
returns-in_err-boolean-clause-err c = on_err _ (c.in_ok-octets.ensures.ok until c.in_ok-words.ensures.ok until c.in_ok-texts.ensures.ok until c.in_ok-enumeration.ensures.ok until c.in_ok-words-2.ensures.ok until c.in_ok-int64.ensures.ok until lacks_here _ c.in_err-boolean.ensures.err)

pub returns-in_err-uint64-clause-err : goal.returns-in_err-uint64-clause-err
returns-in_err-uint64-clause-err c = on_err _ (c.in_ok-octets.ensures.ok until c.in_ok-words.ensures.ok until c.in_ok-texts.ensures.ok until c.in_ok-enumeration.ensures.ok until c.in_ok-words-2.ensures.ok until c.in_ok-int64.ensures.ok until c.in_ok-boolean.ensures.ok until lacks_here _ c.in_err-uint64.ensures.err)

pub returns-in_err-boolean-2-clause-err : goal.returns-in_err-boolean-2-clause-err
returns-in_err-boolean-2-clause-err c = on_err _ (c.in_ok-octets.ensures.ok until c.in_ok-words.ensures.ok until c.in_ok-texts.ensures.ok until c.in_ok-enumeration.ensures.ok until c.in_ok-words-2.ensures.ok until c.in_ok-int64.ensures.ok until c.in_ok-boolean.ensures.ok until c.in_ok-uint64.ensures.ok until lacks_here _ c.in_err-boolean-2.ensures.err)
