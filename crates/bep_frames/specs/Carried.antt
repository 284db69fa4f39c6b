-- What the bytes of a message are, by its type (Block Exchange Protocol v1, "Post-authentication Messages").
use Rattle.std.specs.Prelude.{◌≡◌, ℕ, zero, suc, ◌≤◌, ℤ, pos, negsuc, List, Option, None, Some, Result, Ok, Err, IsSomeAnd}
use Rattle.bep_messages.specs.Protocol.{cluster_config_table, index_table, index_update_table, request_table, response_table, download_progress_table, ping_table, close_table}
use Rattle.bep_messages.specs.Structs.{cluster_config, index, index_update, request, response, download_progress, ping, close}
use Rattle.bep_messages.specs.Tables.{Table, Values}
use Rattle.bep_messages.specs.Values.{decoded}
use Rattle.bep_messages.specs.declared.fault.MessageFault.{MessageFault}
use Rattle.bep_frames.specs.declared.fault.FrameFault.{FrameFault}
use Rattle.bep_frames.specs.declared.fault.FrameFault.TheVariants.{BadBody}
use Rattle.bep_frames.specs.declared.frame.Frame.{Frame}
use Rattle.bep_frames.specs.declared.frame.Frame.TheVariants.{Hello as HelloFrame, Message as MessageFrame, Unknown}
use Rattle.bep_frames.specs.declared.frame.Message.{Message}
use Rattle.bep_frames.specs.declared.frame.Message.TheVariants.{ClusterConfig, Index, IndexUpdate, Request, Response, DownloadProgress, Ping, Close}

-- a known type: the table of its message's fields, and the message of a table's values
pub record Kind : Type 0 where
  pub table : Table
  pub message : Values table → Message

-- the known types
abbrev pub kind_at : ℕ → Option Kind
kind_at zero = Some (record { table = cluster_config_table; message = λ values. ClusterConfig (cluster_config values) })
kind_at (suc zero) = Some (record { table = index_table; message = λ values. Index (index values) })
kind_at (suc (suc zero)) = Some (record { table = index_update_table; message = λ values. IndexUpdate (index_update values) })
kind_at (suc (suc (suc zero))) = Some (record { table = request_table; message = λ values. Request (request values) })
kind_at (suc (suc (suc (suc zero)))) = Some (record { table = response_table; message = λ values. Response (response values) })
kind_at (suc (suc (suc (suc (suc zero))))) = Some (record { table = download_progress_table; message = λ values. DownloadProgress (download_progress values) })
kind_at (suc (suc (suc (suc (suc (suc zero)))))) = Some (record { table = ping_table; message = λ values. Ping (ping values) })
kind_at (suc (suc (suc (suc (suc (suc (suc zero))))))) = Some (record { table = close_table; message = λ values. Close (close values) })
kind_at (suc (suc (suc (suc (suc (suc (suc (suc n)))))))) = None

-- any other type: the known ones are 0 to 7
abbrev pub IsUnknown : ℤ → Type 0
IsUnknown (pos n) = 8 ≤ n
IsUnknown (negsuc n) = Unit {0}

-- a message of this type whose bytes are these
abbrev pub IsMessage : ℤ → List ℕ → Message → Type 0
IsMessage (pos n) bytes m = IsSomeAnd (kind_at n) (λ kind. decoded kind.table kind.message bytes ≡ Ok m)
IsMessage (negsuc n) bytes m = ⊥

-- what these bytes are under this type: one of the eight messages, or whatever they are under an unknown type
abbrev pub Carries : ℤ → List ℕ → Frame → Type 0
Carries kind bytes (HelloFrame m) = ⊥
Carries kind bytes (MessageFrame m) = IsMessage kind bytes m
Carries kind bytes (Unknown k) = (k ≡ kind) × IsUnknown kind

-- ---- as a function that computes

abbrev pub frame_read : Result Message MessageFault → Result Frame FrameFault
frame_read (Ok m) = Ok (MessageFrame m)
frame_read (Err f) = Err BadBody

abbrev pub carried_as : ℕ → List ℕ → Option Kind → Result Frame FrameFault
carried_as n bytes None = Ok (Unknown (pos n))
carried_as n bytes (Some kind) = frame_read (decoded kind.table kind.message bytes)

unfoldable pub carried : ℤ → List ℕ → Result Frame FrameFault
carried (pos n) bytes = carried_as n bytes (kind_at n)
carried (negsuc n) bytes = Ok (Unknown (negsuc n))
