-- Records of a device among announcements.
use Rattle.folder_core.specs.declared.announcement.Announcement.{Announcement}
use Rattle.sync_record.specs.Devices.{Identity}
use Rattle.sync_record.specs.Records.{FileRecord}

abbrev pub by_me : Identity → FileRecord → Announcement
by_me me r = record { device = me; «record» = r }
