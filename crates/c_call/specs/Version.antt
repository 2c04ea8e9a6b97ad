-- The version of the C call.
use Rattle.std.specs.Prelude.{ℕ}

-- 1 is document 01, and each change request that lands raises it by 1.
abbrev pub version : ℕ
version = 8
