use Rattle.std.proofs.Common.{rules, ◌≡◌, ◌++◌, ◌∷◌, [], None, position, bytes_eq}
use Rattle.cal_base.proofs.Files.{file_of-push}
use Rattle.cal_base.proofs.memory_library.MemoryLibrary.add.Goals as goal

pub returns-in_ok-push-in-None-clause-ok : goal.returns-in_ok-push-in-None-clause-ok
returns-in_ok-push-in-None-clause-ok c = λ other.
    let absent : position (λ f. bytes_eq f.0 c.args.name.now) c.args.self.now.files ≡ None = search rules in
    let pushed : c.push.new.self.items ≡ c.args.self.now.files ++ (c.args.name.now, c.args.bytes.now) ∷ [] = search rules in
    rw pushed (file_of-push c.args.self.now.files c.args.name.now c.args.bytes.now other absent)
