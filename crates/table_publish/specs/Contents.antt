-- What the two copies of a window's table have in common, and what an operation makes of it.
use Rattle.std.specs.Prelude.{◌+◌}
use Rattle.table_publish.specs.declared.stores.Store.{Store}
use Rattle.table_publish.specs.declared.stores.Content.{Content}
use Rattle.table_publish.specs.declared.stores.Operation.{Operation}
use Rattle.table_publish.specs.declared.stores.Operation.TheVariants.{Open, Enter}
use Rattle.table_publish.specs.Publications.{changed_by}

abbrev pub content_of : Store → Content
content_of s = record { table = s.table; version = s.version; seen = s.seen }

-- a publication makes its changes, and raises the version by 1
abbrev pub absorbed : Content → Operation → Content
absorbed c Open = c
absorbed c (Enter cs seen) = record { table = changed_by c.table cs; version = c.version + 1; seen = seen }
