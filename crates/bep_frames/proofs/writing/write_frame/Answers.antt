use Rattle.std.proofs.Common.{arith}
use Rattle.bep_messages.specs.Protocol.{cluster_config_table, index_table, index_update_table, request_table, response_table, download_progress_table, ping_table, close_table}
use Rattle.bep_messages.specs.Structs.{cluster_config, index, index_update, request, response, download_progress, ping, close}
use Rattle.bep_frames.specs.declared.frame.Message.TheVariants.{ClusterConfig, Index, IndexUpdate, Request, Response, DownloadProgress, Ping, Close}
use Rattle.bep_frames.proofs.Written.{appends, read_by}
use Rattle.bep_frames.proofs.writing.write_frame.Goals as goal

pub returns-in-ClusterConfig : goal.returns-in-ClusterConfig
returns-in-ClusterConfig c =
    let e = c.write_later.ensures in
    appends _ _ _ _ _ _ _ (ClusterConfig c.in-ClusterConfig.message) c.in-ClusterConfig.is (omega arith) e.ok e.short e.long e.err e.full e.capacity e.header e.again (read_by cluster_config_table cluster_config ClusterConfig _ c.in-ClusterConfig.message)

pub returns-in-Index : goal.returns-in-Index
returns-in-Index c =
    let e = c.write_later-in-Index.ensures in
    appends _ _ _ _ _ _ _ (Index c.in-Index.message) c.in-Index.is (omega arith) e.ok e.short e.long e.err e.full e.capacity e.header e.again (read_by index_table index Index _ c.in-Index.message)

pub returns-in-IndexUpdate : goal.returns-in-IndexUpdate
returns-in-IndexUpdate c =
    let e = c.write_later-in-IndexUpdate.ensures in
    appends _ _ _ _ _ _ _ (IndexUpdate c.in-IndexUpdate.message) c.in-IndexUpdate.is (omega arith) e.ok e.short e.long e.err e.full e.capacity e.header e.again (read_by index_update_table index_update IndexUpdate _ c.in-IndexUpdate.message)

pub returns-in-Request : goal.returns-in-Request
returns-in-Request c =
    let e = c.write_later-in-Request.ensures in
    appends _ _ _ _ _ _ _ (Request c.in-Request.message) c.in-Request.is (omega arith) e.ok e.short e.long e.err e.full e.capacity e.header e.again (read_by request_table request Request _ c.in-Request.message)

pub returns-in-Response : goal.returns-in-Response
returns-in-Response c =
    let e = c.write_later-in-Response.ensures in
    appends _ _ _ _ _ _ _ (Response c.in-Response.message) c.in-Response.is (omega arith) e.ok e.short e.long e.err e.full e.capacity e.header e.again (read_by response_table response Response _ c.in-Response.message)

pub returns-in-DownloadProgress : goal.returns-in-DownloadProgress
returns-in-DownloadProgress c =
    let e = c.write_later-in-DownloadProgress.ensures in
    appends _ _ _ _ _ _ _ (DownloadProgress c.in-DownloadProgress.message) c.in-DownloadProgress.is (omega arith) e.ok e.short e.long e.err e.full e.capacity e.header e.again (read_by download_progress_table download_progress DownloadProgress _ c.in-DownloadProgress.message)

pub returns-in-Ping : goal.returns-in-Ping
returns-in-Ping c =
    let e = c.write_later-in-Ping.ensures in
    appends _ _ _ _ _ _ _ (Ping c.in-Ping.message) c.in-Ping.is (omega arith) e.ok e.short e.long e.err e.full e.capacity e.header e.again (read_by ping_table ping Ping _ c.in-Ping.message)

pub returns-in-Close : goal.returns-in-Close
returns-in-Close c =
    let e = c.write_later-in-Close.ensures in
    appends _ _ _ _ _ _ _ (Close c.in-Close.message) c.in-Close.is (omega arith) e.ok e.short e.long e.err e.full e.capacity e.header e.again (read_by close_table close Close _ c.in-Close.message)
