use Rattle.bep_messages.proofs.Written.{adds_none, ◌then◌, lacks_here, ◌until◌, on_err}
use Rattle.bep_messages.proofs.folder.FolderProtoMessage.write.Goals as goal

pub returns-clause-ok : goal.returns-clause-ok
returns-clause-ok c = c.in_ok-words.ensures.ok then c.in_ok-words-2.ensures.ok then c.in_ok-boolean.ensures.ok then c.in_ok-boolean-2.ensures.ok then c.in_ok-boolean-3.ensures.ok then c.in_ok-boolean-4.ensures.ok then c.in_ok-boolean-5.ensures.ok then c.in_ok-list.ensures.ok then adds_none _

pub returns-in_err-words-clause-err : goal.returns-in_err-words-clause-err
returns-in_err-words-clause-err c = on_err _ (lacks_here _ c.in_err-words.ensures.err)

pub returns-in_err-words-2-clause-err : goal.returns-in_err-words-2-clause-err
returns-in_err-words-2-clause-err c = on_err _ (c.in_ok-words.ensures.ok until lacks_here _ c.in_err-words-2.ensures.err)

pub returns-in_err-boolean-clause-err : goal.returns-in_err-boolean-clause-err
returns-in_err-boolean-clause-err c = on_err _ (c.in_ok-words.ensures.ok until c.in_ok-words-2.ensures.ok until lacks_here _ c.in_err-boolean.ensures.err)

pub returns-in_err-boolean-2-clause-err : goal.returns-in_err-boolean-2-clause-err
returns-in_err-boolean-2-clause-err c = on_err _ (c.in_ok-words.ensures.ok until c.in_ok-words-2.ensures.ok until c.in_ok-boolean.ensures.ok until lacks_here _ c.in_err-boolean-2.ensures.err)

pub returns-in_err-boolean-3-clause-err : goal.returns-in_err-boolean-3-clause-err
returns-in_err-boolean-3-clause-err c = on_err _ (c.in_ok-words.ensures.ok until c.in_ok-words-2.ensures.ok until c.in_ok-boolean.ensures.ok until c.in_ok-boolean-2.ensures.ok until lacks_here _ c.in_err-boolean-3.ensures.err)

pub returns-in_err-boolean-4-clause-err : goal.returns-in_err-boolean-4-clause-err
returns-in_err-boolean-4-clause-err c = on_err _ (c.in_ok-words.ensures.ok until c.in_ok-words-2.ensures.ok until c.in_ok-boolean.ensures.ok until c.in_ok-boolean-2.ensures.ok until c.in_ok-boolean-3.ensures.ok until lacks_here _ c.in_err-boolean-4.ensures.err)

pub returns-in_err-boolean-5-clause-err : goal.returns-in_err-boolean-5-clause-err
returns-in_err-boolean-5-clause-err c = on_err _ (c.in_ok-words.ensures.ok until c.in_ok-words-2.ensures.ok until c.in_ok-boolean.ensures.ok until c.in_ok-boolean-2.ensures.ok until c.in_ok-boolean-3.ensures.ok until c.in_ok-boolean-4.ensures.ok until lacks_here _ c.in_err-boolean-5.ensures.err)

pub returns-in_err-list-clause-err : goal.returns-in_err-list-clause-err
returns-in_err-list-clause-err c = on_err _ (c.in_ok-words.ensures.ok until c.in_ok-words-2.ensures.ok until c.in_ok-boolean.ensures.ok until c.in_ok-boolean-2.ensures.ok until c.in_ok-boolean-3.ensures.ok until c.in_ok-boolean-4.ensures.ok until c.in_ok-boolean-5.ensures.ok until lacks_here _ c.in_err-list.ensures.err)
