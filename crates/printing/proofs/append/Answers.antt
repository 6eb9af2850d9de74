use Rattle.std.proofs.Common.{rules, string_bytes, string_capacity}
use Rattle.printing.proofs.Room.{no_room}
use Rattle.printing.proofs.append.Goals as goal

pub returns-in_err-push_byte-clause-room : goal.returns-in_err-push_byte-clause-room
returns-in_err-push_byte-clause-room c =
    let fewer = no_room c.args.bytes.now (string_bytes c.loop-b.out) (string_bytes c.args.out.now) c.loop-b.b-index (string_capacity c.args.out.now) (string_capacity c.loop-b.out) (search rules) (search rules) (search rules) (search rules) in
    search rules
