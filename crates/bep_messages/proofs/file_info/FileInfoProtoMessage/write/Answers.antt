use Rattle.bep_messages.proofs.Written.{adds_none, ◌then◌, lacks_here, ◌until◌, on_err}
use Rattle.bep_messages.proofs.file_info.FileInfoProtoMessage.write.Goals as goal

pub returns-clause-ok : goal.returns-clause-ok
returns-clause-ok c = c.in_ok-words.ensures.ok then c.in_ok-enumeration.ensures.ok then c.in_ok-int64.ensures.ok then c.in_ok-uint32.ensures.ok then c.in_ok-int64-2.ensures.ok then c.in_ok-boolean.ensures.ok then c.in_ok-boolean-2.ensures.ok then c.in_ok-boolean-3.ensures.ok then c.in_ok-one.ensures.ok then c.in_ok-int64-3.ensures.ok then c.in_ok-int32.ensures.ok then c.in_ok-uint64.ensures.ok then c.in_ok-int32-2.ensures.ok then c.in_ok-list.ensures.ok then c.in_ok-octets.ensures.ok then adds_none _

pub returns-in_err-words-clause-err : goal.returns-in_err-words-clause-err
returns-in_err-words-clause-err c = on_err _ (lacks_here _ c.in_err-words.ensures.err)

pub returns-in_err-enumeration-clause-err : goal.returns-in_err-enumeration-clause-err
returns-in_err-enumeration-clause-err c = on_err _ (c.in_ok-words.ensures.ok until lacks_here _ c.in_err-enumeration.ensures.err)

pub returns-in_err-int64-clause-err : goal.returns-in_err-int64-clause-err
returns-in_err-int64-clause-err c = on_err _ (c.in_ok-words.ensures.ok until c.in_ok-enumeration.ensures.ok until lacks_here _ c.in_err-int64.ensures.err)

pub returns-in_err-uint32-clause-err : goal.returns-in_err-uint32-clause-err
returns-in_err-uint32-clause-err c = on_err _ (c.in_ok-words.ensures.ok until c.in_ok-enumeration.ensures.ok until c.in_ok-int64.ensures.ok until lacks_here _ c.in_err-uint32.ensures.err)

pub returns-in_err-int64-2-clause-err : goal.returns-in_err-int64-2-clause-err
returns-in_err-int64-2-clause-err c = on_err _ (c.in_ok-words.ensures.ok until c.in_ok-enumeration.ensures.ok until c.in_ok-int64.ensures.ok until c.in_ok-uint32.ensures.ok until lacks_here _ c.in_err-int64-2.ensures.err)

pub returns-in_err-boolean-clause-err : goal.returns-in_err-boolean-clause-err
returns-in_err-boolean-clause-err c = on_err _ (c.in_ok-words.ensures.ok until c.in_ok-enumeration.ensures.ok until c.in_ok-int64.ensures.ok until c.in_ok-uint32.ensures.ok until c.in_ok-int64-2.ensures.ok until lacks_here _ c.in_err-boolean.ensures.err)

pub returns-in_err-boolean-2-clause-err : goal.returns-in_err-boolean-2-clause-err
returns-in_err-boolean-2-clause-err c = on_err _ (c.in_ok-words.ensures.ok until c.in_ok-enumeration.ensures.ok until c.in_ok-int64.ensures.ok until c.in_ok-uint32.ensures.ok until c.in_ok-int64-2.ensures.ok until c.in_ok-boolean.ensures.ok until lacks_here _ c.in_err-boolean-2.ensures.err)

pub returns-in_err-boolean-3-clause-err : goal.returns-in_err-boolean-3-clause-err
returns-in_err-boolean-3-clause-err c = on_err _ (c.in_ok-words.ensures.ok until c.in_ok-enumeration.ensures.ok until c.in_ok-int64.ensures.ok until c.in_ok-uint32.ensures.ok until c.in_ok-int64-2.ensures.ok until c.in_ok-boolean.ensures.ok until c.in_ok-boolean-2.ensures.ok until lacks_here _ c.in_err-boolean-3.ensures.err)

pub returns-in_err-one-clause-err : goal.returns-in_err-one-clause-err
returns-in_err-one-clause-err c = on_err _ (c.in_ok-words.ensures.ok until c.in_ok-enumeration.ensures.ok until c.in_ok-int64.ensures.ok until c.in_ok-uint32.ensures.ok until c.in_ok-int64-2.ensures.ok until c.in_ok-boolean.ensures.ok until c.in_ok-boolean-2.ensures.ok until c.in_ok-boolean-3.ensures.ok until lacks_here _ c.in_err-one.ensures.err)

pub returns-in_err-int64-3-clause-err : goal.returns-in_err-int64-3-clause-err
returns-in_err-int64-3-clause-err c = on_err _ (c.in_ok-words.ensures.ok until c.in_ok-enumeration.ensures.ok until c.in_ok-int64.ensures.ok until c.in_ok-uint32.ensures.ok until c.in_ok-int64-2.ensures.ok until c.in_ok-boolean.ensures.ok until c.in_ok-boolean-2.ensures.ok until c.in_ok-boolean-3.ensures.ok until c.in_ok-one.ensures.ok until lacks_here _ c.in_err-int64-3.ensures.err)

pub returns-in_err-int32-clause-err : goal.returns-in_err-int32-clause-err
returns-in_err-int32-clause-err c = on_err _ (c.in_ok-words.ensures.ok until c.in_ok-enumeration.ensures.ok until c.in_ok-int64.ensures.ok until c.in_ok-uint32.ensures.ok until c.in_ok-int64-2.ensures.ok until c.in_ok-boolean.ensures.ok until c.in_ok-boolean-2.ensures.ok until c.in_ok-boolean-3.ensures.ok until c.in_ok-one.ensures.ok until c.in_ok-int64-3.ensures.ok until lacks_here _ c.in_err-int32.ensures.err)

pub returns-in_err-uint64-clause-err : goal.returns-in_err-uint64-clause-err
returns-in_err-uint64-clause-err c = on_err _ (c.in_ok-words.ensures.ok until c.in_ok-enumeration.ensures.ok until c.in_ok-int64.ensures.ok until c.in_ok-uint32.ensures.ok until c.in_ok-int64-2.ensures.ok until c.in_ok-boolean.ensures.ok until c.in_ok-boolean-2.ensures.ok until c.in_ok-boolean-3.ensures.ok until c.in_ok-one.ensures.ok until c.in_ok-int64-3.ensures.ok until c.in_ok-int32.ensures.ok until lacks_here _ c.in_err-uint64.ensures.err)

pub returns-in_err-int32-2-clause-err : goal.returns-in_err-int32-2-clause-err
returns-in_err-int32-2-clause-err c = on_err _ (c.in_ok-words.ensures.ok until c.in_ok-enumeration.ensures.ok until c.in_ok-int64.ensures.ok until c.in_ok-uint32.ensures.ok until c.in_ok-int64-2.ensures.ok until c.in_ok-boolean.ensures.ok until c.in_ok-boolean-2.ensures.ok until c.in_ok-boolean-3.ensures.ok until c.in_ok-one.ensures.ok until c.in_ok-int64-3.ensures.ok until c.in_ok-int32.ensures.ok until c.in_ok-uint64.ensures.ok until lacks_here _ c.in_err-int32-2.ensures.err)

pub returns-in_err-list-clause-err : goal.returns-in_err-list-clause-err
returns-in_err-list-clause-err c = on_err _ (c.in_ok-words.ensures.ok until c.in_ok-enumeration.ensures.ok until c.in_ok-int64.ensures.ok until c.in_ok-uint32.ensures.ok until c.in_ok-int64-2.ensures.ok until c.in_ok-boolean.ensures.ok until c.in_ok-boolean-2.ensures.ok until c.in_ok-boolean-3.ensures.ok until c.in_ok-one.ensures.ok until c.in_ok-int64-3.ensures.ok until c.in_ok-int32.ensures.ok until c.in_ok-uint64.ensures.ok until c.in_ok-int32-2.ensures.ok until lacks_here _ c.in_err-list.ensures.err)

pub returns-in_err-octets-clause-err : goal.returns-in_err-octets-clause-err
returns-in_err-octets-clause-err c = on_err _ (c.in_ok-words.ensures.ok until c.in_ok-enumeration.ensures.ok until c.in_ok-int64.ensures.ok until c.in_ok-uint32.ensures.ok until c.in_ok-int64-2.ensures.ok until c.in_ok-boolean.ensures.ok until c.in_ok-boolean-2.ensures.ok until c.in_ok-boolean-3.ensures.ok until c.in_ok-one.ensures.ok until c.in_ok-int64-3.ensures.ok until c.in_ok-int32.ensures.ok until c.in_ok-uint64.ensures.ok until c.in_ok-int32-2.ensures.ok until c.in_ok-list.ensures.ok until lacks_here _ c.in_err-octets.ensures.err)
