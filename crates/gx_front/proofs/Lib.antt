mod Storming
