pub mod SingleCommand
