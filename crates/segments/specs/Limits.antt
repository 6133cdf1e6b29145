-- How large a segment is (RELSEG_SIZE of pg_config.h, 1 GiB by default), and how many a relation may have. The number
-- of segments is this program's own limit.
use Rattle.std.specs.Prelude.{ℕ, ◌*◌, ◌≤◌}
use Rattle.pg_bytes.specs.PageLayout.{page_size}
use Rattle.segments.specs.declared.limits.Limits.{Limits}

pub record AreLimits (limits : Limits) : Type 0 where
  pub some_blocks : 1 ≤ limits.segment
  pub few_blocks : limits.segment ≤ 131072
  pub some_segments : 1 ≤ limits.segments
  pub few_segments : limits.segments ≤ 3

-- the bytes of a full segment
abbrev pub segment_bytes : Limits → ℕ
segment_bytes limits = limits.segment * page_size
