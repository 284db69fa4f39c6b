-- A struct is the one that its fields make.
use Rattle.std.specs.Prelude.{◌≡◌, List, [], ◌∷◌, map, refl}
use Rattle.bep_messages.specs.declared.hello.Hello.{Hello}
use Rattle.bep_messages.specs.declared.header.Header.{Header}
use Rattle.bep_messages.specs.declared.device.Device.{Device}
use Rattle.bep_messages.specs.declared.folder.Folder.{Folder}
use Rattle.bep_messages.specs.declared.cluster_config.ClusterConfig.{ClusterConfig}
use Rattle.bep_messages.specs.declared.counter.Counter.{Counter}
use Rattle.bep_messages.specs.declared.vector.Vector.{Vector}
use Rattle.bep_messages.specs.declared.block_info.BlockInfo.{BlockInfo}
use Rattle.bep_messages.specs.declared.file_info.FileInfo.{FileInfo}
use Rattle.bep_messages.specs.declared.index.Index.{Index}
use Rattle.bep_messages.specs.declared.index_update.IndexUpdate.{IndexUpdate}
use Rattle.bep_messages.specs.declared.request.Request.{Request}
use Rattle.bep_messages.specs.declared.response.Response.{Response}
use Rattle.bep_messages.specs.declared.download_progress.DownloadProgress.{DownloadProgress}
use Rattle.bep_messages.specs.declared.ping.Ping.{Ping}
use Rattle.bep_messages.specs.declared.close.Close.{Close}
use Rattle.bep_messages.specs.Structs.{hello_parts, hello, header_parts, header, device_parts, device, folder_parts, folder, cluster_config_parts, cluster_config, counter_parts, counter, vector_parts, vector, block_info_parts, block_info, file_info_parts, file_info, index_parts, index, index_update_parts, index_update, request_parts, request, response_parts, response, download_progress_parts, download_progress, ping_parts, ping, close_parts, close}

pub map_back : {A B : Type 0} (f : A → B) (g : B → A) → ((x : A) → g (f x) ≡ x) → (xs : List A) → map g (map f xs) ≡ xs
map_back f g h [] = refl
map_back f g h (x ∷ xs) = rw (h x, map_back f g h xs) refl

pub hello_whole : (m : Hello) → hello (hello_parts m) ≡ m
hello_whole m = refl

pub header_whole : (m : Header) → header (header_parts m) ≡ m
header_whole m = refl

pub device_whole : (m : Device) → device (device_parts m) ≡ m
device_whole m = refl

pub folder_whole : (m : Folder) → folder (folder_parts m) ≡ m
folder_whole m = rw (map_back device_parts device device_whole m.devices) refl

pub cluster_config_whole : (m : ClusterConfig) → cluster_config (cluster_config_parts m) ≡ m
cluster_config_whole m = rw (map_back folder_parts folder folder_whole m.folders) refl

pub counter_whole : (m : Counter) → counter (counter_parts m) ≡ m
counter_whole m = refl

pub vector_whole : (m : Vector) → vector (vector_parts m) ≡ m
vector_whole m = rw (map_back counter_parts counter counter_whole m.counters) refl

pub block_info_whole : (m : BlockInfo) → block_info (block_info_parts m) ≡ m
block_info_whole m = refl

pub file_info_whole : (m : FileInfo) → file_info (file_info_parts m) ≡ m
file_info_whole m = rw (vector_whole m.version, map_back block_info_parts block_info block_info_whole m.blocks) refl

pub index_whole : (m : Index) → index (index_parts m) ≡ m
index_whole m = rw (map_back file_info_parts file_info file_info_whole m.files) refl

pub index_update_whole : (m : IndexUpdate) → index_update (index_update_parts m) ≡ m
index_update_whole m = rw (map_back file_info_parts file_info file_info_whole m.files) refl

pub request_whole : (m : Request) → request (request_parts m) ≡ m
request_whole m = refl

pub response_whole : (m : Response) → response (response_parts m) ≡ m
response_whole m = refl

pub download_progress_whole : (m : DownloadProgress) → download_progress (download_progress_parts m) ≡ m
download_progress_whole m = refl

pub ping_whole : (m : Ping) → ping (ping_parts m) ≡ m
ping_whole m = refl

pub close_whole : (m : Close) → close (close_parts m) ≡ m
close_whole m = refl
