-- The join of two rows of any tables.
use Rattle.std.specs.Prelude.{ℕ}
use Rattle.crdt_rows.specs.declared.any_row.AnyRow.{AnyRow}
use Rattle.crdt_rows.specs.declared.any_row.AnyRow.TheVariants.{Object, Version, Ref}
use Rattle.crdt_rows.specs.ObjectRow.{object_join}
use Rattle.crdt_rows.specs.VersionRow.{version_row_join}
use Rattle.crdt_rows.specs.RefRow.{ref_row_join}

-- 1 object, 2 version, 3 reference
abbrev pub table_of : AnyRow → ℕ
table_of (Object r) = 1
table_of (Version r) = 2
table_of (Ref r) = 3

-- the join of two rows of one table, else the row of the later table
abbrev pub any_join : AnyRow → AnyRow → AnyRow
any_join (Object a) (Object b) = Object (object_join a b)
any_join (Object a) (Version b) = Version b
any_join (Object a) (Ref b) = Ref b
any_join (Version a) (Object b) = Version a
any_join (Version a) (Version b) = Version (version_row_join a b)
any_join (Version a) (Ref b) = Ref b
any_join (Ref a) (Object b) = Ref a
any_join (Ref a) (Version b) = Ref a
any_join (Ref a) (Ref b) = Ref (ref_row_join a b)
