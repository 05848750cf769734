-- What loading a file comes to.
use Rattle.std.specs.Prelude.{◌≡◌, ◌⊎◌, ℕ, List, length}
use Rattle.cal_base.specs.declared.status.Status.TheVariants.{ReadFault, TooLong}
use Rattle.cal_base.specs.Outside.{Raised}
use Rattle.cal_refusal.specs.Refusals.{read_line, long_line}
use Rattle.cal_top.specs.declared.reply.Reply.{Reply}
use Rattle.cal_top.specs.declared.loaded.Loaded.{Loaded}
use Rattle.cal_top.specs.declared.loaded.Loaded.TheVariants as loaded
use Rattle.cal_top.specs.Seen.{Seen, File, IsUnread, IsTooLong, AreBytesOf}

-- these are the bytes of the file, and so many were given
pub record AreLoaded (seen : Seen) (file : File) (bytes : List ℕ) : Type 0 where
  pub are : AreBytesOf seen file bytes
  pub given : Raised seen.given seen.given_now (length bytes)

pub record IsUnreadReply (seen : Seen) (file : File) (reply : Reply) : Type 0 where
  pub unread : IsUnread seen file
  pub status : reply.status ≡ ReadFault
  pub text : reply.text.items ≡ read_line

pub record IsTooLongReply (seen : Seen) (file : File) (reply : Reply) : Type 0 where
  pub too_long : IsTooLong seen 0 file
  pub status : reply.status ≡ TooLong
  pub text : reply.text.items ≡ long_line

abbrev pub IsLoaded : Seen → File → Loaded → Type 0
IsLoaded seen file (loaded.Bytes bytes) = AreLoaded seen file bytes.items
IsLoaded seen file (loaded.Refused reply) = IsUnreadReply seen file reply ⊎ IsTooLongReply seen file reply
