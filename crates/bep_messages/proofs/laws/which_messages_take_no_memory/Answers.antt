use Rattle.bep_messages.proofs.Takes.{ping_takes, download_progress_takes, header_takes, block_info_takes, close_takes}
use Rattle.bep_messages.proofs.laws.which_messages_take_no_memory.Goals as goal

pub returns-clause-ping : goal.returns-clause-ping
returns-clause-ping c = ping_takes

pub returns-clause-download_progress : goal.returns-clause-download_progress
returns-clause-download_progress c = download_progress_takes

pub returns-clause-header : goal.returns-clause-header
returns-clause-header c = header_takes

pub returns-clause-block_info : goal.returns-clause-block_info
returns-clause-block_info c = block_info_takes

pub returns-clause-close : goal.returns-clause-close
returns-clause-close c = close_takes
