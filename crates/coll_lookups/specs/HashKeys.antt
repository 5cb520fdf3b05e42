-- Keys for look-ups by hash: what each hash begins with.
use Rattle.std.specs.Prelude.{ℕ, ◌++◌}
use Rattle.std.specs.declared.hash.DefaultHasher.{DefaultHasher}
use Rattle.std.specs.Hash as fed
use Rattle.std.specs.Hash.DefaultHasher as sip
use Rattle.std.specs.List.{fold}

-- the hasher that has taken in two keys, one after the other
abbrev pub keyed : ℕ → ℕ → DefaultHasher
keyed first second = fold sip.write sip.initial (fed.u64 first ++ fed.u64 second)
