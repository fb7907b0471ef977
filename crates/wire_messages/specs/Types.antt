-- The types of control messages, by name.
use Rattle.std.specs.Prelude.{ℕ}

-- those that are taken, and those of their replies
abbrev pub echo_type : ℕ
echo_type = 1

abbrev pub echo_reply_type : ℕ
echo_reply_type = 2

abbrev pub version_type : ℕ
version_type = 3

abbrev pub create_type : ℕ
create_type = 32

abbrev pub create_reply_type : ℕ
create_reply_type = 33

abbrev pub modify_type : ℕ
modify_type = 34

abbrev pub modify_reply_type : ℕ
modify_reply_type = 35

abbrev pub delete_type : ℕ
delete_type = 36

abbrev pub delete_reply_type : ℕ
delete_reply_type = 37

-- the unit's own Delete Bearer, and the reply to it
abbrev pub bearer_type : ℕ
bearer_type = 99

abbrev pub bearer_reply_type : ℕ
bearer_reply_type = 100
