-- The fields of each struct in the order of its table, and the struct that has these.
use Rattle.std.specs.Prelude.{map}
use Rattle.bep_messages.specs.declared.hello.Hello.{Hello}
use Rattle.bep_messages.specs.declared.header.Header.{Header}
use Rattle.bep_messages.specs.declared.device.Device.{Device}
use Rattle.bep_messages.specs.declared.folder.Folder.{Folder}
use Rattle.bep_messages.specs.declared.cluster_config.ClusterConfig.{ClusterConfig}
use Rattle.bep_messages.specs.declared.counter.Counter.{Counter}
use Rattle.bep_messages.specs.declared.vector.Vector.{Vector}
use Rattle.bep_messages.specs.declared.block_info.BlockInfo.{BlockInfo}
use Rattle.bep_messages.specs.declared.file_info.FileInfo.{FileInfo}
use Rattle.bep_messages.specs.declared.index.Index.{Index}
use Rattle.bep_messages.specs.declared.index_update.IndexUpdate.{IndexUpdate}
use Rattle.bep_messages.specs.declared.request.Request.{Request}
use Rattle.bep_messages.specs.declared.response.Response.{Response}
use Rattle.bep_messages.specs.declared.download_progress.DownloadProgress.{DownloadProgress}
use Rattle.bep_messages.specs.declared.ping.Ping.{Ping}
use Rattle.bep_messages.specs.declared.close.Close.{Close}
use Rattle.bep_messages.specs.Tables.{Values}
use Rattle.bep_messages.specs.Protocol.{hello_table, header_table, device_table, folder_table, cluster_config_table, counter_table, vector_table, block_info_table, file_info_table, index_table, index_update_table, request_table, response_table, download_progress_table, ping_table, close_table}

abbrev pub hello_parts : Hello → Values hello_table
hello_parts m = (m.device_name, (m.client_name, (m.client_version, tt)))

abbrev pub hello : Values hello_table → Hello
hello (device_name, (client_name, (client_version, none))) =
    record {
      device_name = device_name;
      client_name = client_name;
      client_version = client_version;
    }

abbrev pub header_parts : Header → Values header_table
header_parts m = (m.kind, (m.compression, tt))

abbrev pub header : Values header_table → Header
header (kind, (compression, none)) = record { kind = kind; compression = compression }

abbrev pub device_parts : Device → Values device_table
device_parts m = (
  m.id,
  (
    m.name,
    (
      m.addresses,
      (
        m.compression,
        (
          m.cert_name,
          (
            m.max_sequence,
            (
              m.introducer,
              (m.index_id, (m.skip_introduction_removals, tt)),
            ),
          ),
        ),
      ),
    ),
  ),
)

abbrev pub device : Values device_table → Device
device (
  id,
  (
    name,
    (
      addresses,
      (
        compression,
        (
          cert_name,
          (
            max_sequence,
            (
              introducer,
              (
                index_id,
                (skip_introduction_removals, none),
              ),
            ),
          ),
        ),
      ),
    ),
  ),
) =
    record {
      id = id;
      name = name;
      addresses = addresses;
      compression = compression;
      cert_name = cert_name;
      max_sequence = max_sequence;
      introducer = introducer;
      index_id = index_id;
      skip_introduction_removals = skip_introduction_removals;
    }

abbrev pub folder_parts : Folder → Values folder_table
folder_parts m = (
  m.id,
  (
    m.label,
    (
      m.read_only,
      (
        m.ignore_permissions,
        (
          m.ignore_delete,
          (m.disable_temp_indexes, (m.paused, (map device_parts m.devices, tt))),
        ),
      ),
    ),
  ),
)

abbrev pub folder : Values folder_table → Folder
folder (
  id,
  (
    label,
    (
      read_only,
      (
        ignore_permissions,
        (
          ignore_delete,
          (
            disable_temp_indexes,
            (
              paused,
              (devices, none),
            ),
          ),
        ),
      ),
    ),
  ),
) =
    record {
      id = id;
      label = label;
      read_only = read_only;
      ignore_permissions = ignore_permissions;
      ignore_delete = ignore_delete;
      disable_temp_indexes = disable_temp_indexes;
      paused = paused;
      devices = map device devices;
    }

abbrev pub cluster_config_parts : ClusterConfig → Values cluster_config_table
cluster_config_parts m = (map folder_parts m.folders, tt)

abbrev pub cluster_config : Values cluster_config_table → ClusterConfig
cluster_config (folders, none) = record { folders = map folder folders }

abbrev pub counter_parts : Counter → Values counter_table
counter_parts m = (m.id, (m.value, tt))

abbrev pub counter : Values counter_table → Counter
counter (id, (value, none)) = record { id = id; value = value }

abbrev pub vector_parts : Vector → Values vector_table
vector_parts m = (map counter_parts m.counters, tt)

abbrev pub vector : Values vector_table → Vector
vector (counters, none) = record { counters = map counter counters }

abbrev pub block_info_parts : BlockInfo → Values block_info_table
block_info_parts m = (m.offset, (m.size, (m.hash, tt)))

abbrev pub block_info : Values block_info_table → BlockInfo
block_info (offset, (size, (hash, none))) = record { offset = offset; size = size; hash = hash }

abbrev pub file_info_parts : FileInfo → Values file_info_table
file_info_parts m = (
  m.name,
  (
    m.kind,
    (
      m.size,
      (
        m.permissions,
        (
          m.modified_s,
          (
            m.deleted,
            (
              m.invalid,
              (
                m.no_permissions,
                (
                  vector_parts m.version,
                  (
                    m.sequence,
                    (
                      m.modified_ns,
                      (
                        m.modified_by,
                        (m.block_size, (map block_info_parts m.blocks, (m.symlink_target, tt))),
                      ),
                    ),
                  ),
                ),
              ),
            ),
          ),
        ),
      ),
    ),
  ),
)

abbrev pub file_info : Values file_info_table → FileInfo
file_info (
  name,
  (
    kind,
    (
      size,
      (
        permissions,
        (
          modified_s,
          (
            deleted,
            (
              invalid,
              (
                no_permissions,
                (
                  version,
                  (sequence, (modified_ns, (modified_by, (block_size, (blocks, (symlink_target, none)))))),
                ),
              ),
            ),
          ),
        ),
      ),
    ),
  ),
) =
    record {
      name = name;
      kind = kind;
      size = size;
      permissions = permissions;
      modified_s = modified_s;
      deleted = deleted;
      invalid = invalid;
      no_permissions = no_permissions;
      version = vector version;
      sequence = sequence;
      modified_ns = modified_ns;
      modified_by = modified_by;
      block_size = block_size;
      blocks = map block_info blocks;
      symlink_target = symlink_target;
    }

abbrev pub index_parts : Index → Values index_table
index_parts m = (m.folder, (map file_info_parts m.files, tt))

abbrev pub index : Values index_table → Index
index (folder, (files, none)) = record { folder = folder; files = map file_info files }

abbrev pub index_update_parts : IndexUpdate → Values index_update_table
index_update_parts m = (m.folder, (map file_info_parts m.files, tt))

abbrev pub index_update : Values index_update_table → IndexUpdate
index_update (folder, (files, none)) = record { folder = folder; files = map file_info files }

abbrev pub request_parts : Request → Values request_table
request_parts m = (m.id, (m.folder, (m.name, (m.offset, (m.size, (m.hash, (m.from_temporary, tt)))))))

abbrev pub request : Values request_table → Request
request (id, (folder, (name, (offset, (size, (hash, (from_temporary, none))))))) =
    record {
      id = id;
      folder = folder;
      name = name;
      offset = offset;
      size = size;
      hash = hash;
      from_temporary = from_temporary;
    }

abbrev pub response_parts : Response → Values response_table
response_parts m = (m.id, (m.payload, (m.code, tt)))

abbrev pub response : Values response_table → Response
response (id, (payload, (code, none))) = record { id = id; payload = payload; code = code }

abbrev pub download_progress_parts : DownloadProgress → Values download_progress_table
download_progress_parts m = tt

abbrev pub download_progress : Values download_progress_table → DownloadProgress
download_progress none = record {}

abbrev pub ping_parts : Ping → Values ping_table
ping_parts m = tt

abbrev pub ping : Values ping_table → Ping
ping none = record {}

abbrev pub close_parts : Close → Values close_table
close_parts m = (m.reason, tt)

abbrev pub close : Values close_table → Close
close (reason, none) = record { reason = reason }
