-- How the reasons for which a listing leaves out a name are shown (own rule).
use Rattle.std.specs.Prelude.{ℕ, List, codes}
use Rattle.file_dir.specs.declared.skipped.SkipReason.{SkipReason}
use Rattle.file_dir.specs.declared.skipped.SkipReason.TheVariants.{NotUtf8, NotNfc, Link, Special, TooLong, Unreadable}

abbrev pub skip_reason_text : SkipReason → List ℕ
skip_reason_text NotUtf8 = codes "not UTF-8"
skip_reason_text NotNfc = codes "not in NFC"
skip_reason_text Link = codes "a symbolic link"
skip_reason_text Special = codes "a pipe, a socket or a device"
skip_reason_text TooLong = codes "too long (over 240 bytes)"
skip_reason_text Unreadable = codes "can't be read: are its permissions right?"
