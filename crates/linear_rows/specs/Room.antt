-- The room in which row steps are checked.
use Rattle.std.specs.Prelude.{◌≡◌, ℕ, ◌≤◌, length}
use Rattle.linear_rows.specs.declared.room.RowRoom.{RowRoom}

-- room over n variables for at least so many steps
pub record IsRoomFor (n steps : ℕ) (room : RowRoom) : Type 0 where
  pub variables : room.n ≡ n
  pub enough : steps ≤ length room.numbers.items
