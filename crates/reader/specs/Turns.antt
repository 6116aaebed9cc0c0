-- Which group of records may come after which.
use Rattle.std.specs.Prelude.{ℕ, Bool, ◌&&◌, nat_le}
use Rattle.reader.specs.declared.record.Group.{Group}
use Rattle.reader.specs.declared.record.Group.TheVariants as group
use Rattle.reader.specs.declared.record.Record.{Record}
use Rattle.reader.specs.declared.record.Record.TheVariants.{Field, Filled, Pad, Drawn, Question, First, Second}

-- the group that a record belongs to; filled voxels and pads are of one
abbrev pub group_of : Record → Group
group_of (Field b) = group.Field
group_of (Filled v) = group.Voxels
group_of (Pad v) = group.Voxels
group_of (Drawn s) = group.Drawing
group_of (Question form degree) = group.Question
group_of (First t) = group.First
group_of (Second t) = group.Second

-- the place of a group among the groups
abbrev pub place : Group → ℕ
place group.Start = 0
place group.Field = 1
place group.Voxels = 2
place group.Drawing = 3
place group.Question = 4
place group.First = 5
place group.Second = 6

-- the groups that may come after a group: from the place of the earliest to the place of the latest
abbrev pub turns : Group → ℕ × ℕ
turns group.Start = (1, 1)
turns group.Field = (2, 4)
turns group.Voxels = (2, 4)
turns group.Drawing = (3, 4)
turns group.Question = (5, 6)
turns group.First = (5, 6)
turns group.Second = (6, 6)

-- whether a record of the group next may come after one of the group last
abbrev pub may_follow : Group → Group → Bool
may_follow last next = nat_le (turns last).0 (place next) && nat_le (place next) (turns last).1
