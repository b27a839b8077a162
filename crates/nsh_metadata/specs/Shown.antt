-- What a view of an item in its header's bytes shows.
use Rattle.nsh_metadata.specs.Item.{Item}
use Rattle.nsh_metadata.specs.declared.items.ItemRef.{ItemRef}

abbrev pub shown : ItemRef → Item
shown i = record { class = i.class; kind = i.kind; spare = i.spare; body = i.body.now; pad = i.pad.now }
