-- What is kept of entries that are received.
use Rattle.std.proofs.Common.{◌≡◌, [], List, sym}
use Rattle.config_search.specs.Collecting.{AreSettingsOf, Collects, none, one_more}
use Rattle.config_search.specs.Reads.{ReadEntry}
use Rattle.config_search.specs.Receiving as receiving
use Rattle.config_search.specs.Receiving.{ReceivesEach}
use Rattle.config_search.specs.declared.settings.Collector.{Collector}

pub collected : {old new : Collector} {read : List ReadEntry} → old.settings.entries.items ≡ []
    → ReceivesEach Collects old read new → AreSettingsOf read new.settings.entries.items
collected empty receiving.nothing = rw empty none
collected empty (receiving.one_more it so_far (setting, is, kept)) =
    rw kept (one_more it setting (collected empty so_far) is)
